-- When what is told to be right is so.
use Rattle.std.specs.Prelude.{◌≡◌, ◌≤◌, ℕ, Some, None}
use Rattle.ct_names.specs.Group.{IsMember}
use Rattle.ct_names.specs.Value.{Value}
use Rattle.ct_model.specs.Rehearsal.{Rehearsal}
use Rattle.ct_model.specs.State.{at_serial}
use Rattle.ct_model.specs.declared.step.Step.TheVariants.{Receive}
use Rattle.ct_world.specs.Standing.{heard_by}
use Rattle.ct_world.specs.World.{member_of, if_member}
use Rattle.ct_text.specs.Standing.{instance_of}
use Rattle.ct_show.specs.Wires.{letter_at}
use Rattle.ct_judging.specs.Rights.{proposal_in}

-- p heard this estimate of q for its round
abbrev pub Hears : Rehearsal → (p q : ℕ) → Value → ℕ → Type 0
Hears w p q v ts = if_member w p (heard_by (member_of w p) q) ≡ Some (v, ts)

-- p heard an estimate with this ts of q, and of no member one with a larger ts
pub record IsLargest (w : Rehearsal) (p q ts : ℕ) : Type 0 where
  pub there : IsMember w.setting.members q
  pub heard : (v : Value) × Hears w p q v ts
  pub largest : (other : ℕ) (v : Value) (more : ℕ) → IsMember w.setting.members other → Hears w p other v more → more ≤ ts

-- p heard no estimate of q for its round
abbrev pub HearsNone : Rehearsal → (p q : ℕ) → Type 0
HearsNone w p q = if_member w p (heard_by (member_of w p) q) ≡ None

-- p received a proposal of its instance for this round
pub record HasProposal (w : Rehearsal) (p round : ℕ) : Type 0 where
  pub number : ℕ
  pub serial : ℕ
  pub step : at_serial w.steps number ≡ Some (Receive p serial)
  pub proposal : proposal_in (instance_of w p) (letter_at w serial) ≡ Some round
