-- The members after a step.
use Rattle.std.proofs.Common.{◌≡◌, ◌≢◌, ℕ, ◌⊎◌, arith}
use Rattle.std.proofs.lemmas.Bool.{cases_eq}
use Rattle.ct_names.specs.Group.{IsMember}
use Rattle.ct_model.specs.Setting.{Setting}
use Rattle.ct_model.specs.State.{State, member}
use Rattle.ct_model.specs.Next.{Outcome, after}
use Rattle.ct_model.proofs.Record.Frame.{member-same as same_place, member-other as other_place}
use Rattle.ct_model.proofs.Consensus.Facts.{Holds}
pub use Rattle.ct_model.proofs.Consensus.Sent.{Sent, Carries, Sent-cases, Sent-wire}

-- the actor is as the step leaves it, and the others as they were

pub member-same : (s : Setting) (g : State) (p : ℕ) (o : Outcome) → Holds s g → IsMember s.members p → member (after s g p o) p ≡ o.member
member-same s g p o holds is = same_place s g p o (omega (arith, holds.size))

pub member-other : (s : Setting) (g : State) (p q : ℕ) (o : Outcome) → IsMember s.members p → IsMember s.members q → q ≢ p →
    member (after s g p o) q ≡ member g q
member-other s g p q o m h ne = grind (arith, other_place s g p q o (λ e. ne (omega arith)))

pub p_or_other : (q p : ℕ) → (q ≡ p) ⊎ (q ≢ p)
p_or_other q p = cases_eq q p
