-- What goals say, in words of states and of the beginnings of a record.
use Rattle.std.specs.Prelude.{◌≡◌, ◌≤◌, ◌<◌, ℕ, Bool, true, false, List, [], ◌∷◌, ◌++◌, length, option_map, position, Some}
use Rattle.ct_names.specs.Group.{IsMember, coordinator, everyone}
use Rattle.ct_names.specs.Membership.{IsIn}
use Rattle.ct_names.specs.Message.{Message}
use Rattle.ct_names.specs.Value.{Value}
use Rattle.ct_names.specs.declared.refusal.Refusal.{Refusal}
use Rattle.ct_model.specs.Cause.{cause}
use Rattle.ct_model.specs.Mapped.{without_value}
use Rattle.ct_model.specs.declared.step.Step.{Step}
use Rattle.ct_model.specs.declared.step.Step.TheVariants.{Choose, Conclude, Follow, Receive, Suspect}
use Rattle.ct_model.specs.Received.{HasDecided}
use Rattle.ct_model.specs.Rehearsal.{Rehearsal, state_of}
use Rattle.ct_model.specs.State.{at_serial, delivered, is_crashed}
use Rattle.ct_world.specs.Standing.{heard_by}
use Rattle.ct_world.specs.World.{member_of}
use Rattle.ct_grammar.specs.declared.carried.Carried.TheVariants.{Dec, Prop}
use Rattle.ct_grammar.specs.declared.claim.Claim.{Claim}
use Rattle.ct_grammar.specs.declared.claim.Claim.TheVariants as claim
use Rattle.ct_grammar.specs.declared.claim.Extent.{Extent}
use Rattle.ct_grammar.specs.declared.claim.Extent.TheVariants.{AtLeast, Exactly}
use Rattle.ct_grammar.specs.declared.claim.Name.{Name}
use Rattle.ct_grammar.specs.declared.goal.Goal.{Goal}
use Rattle.ct_grammar.specs.declared.reason.Reason.{Reason}
use Rattle.ct_grammar.specs.declared.reason.Reason.TheVariants.{Rules}
use Rattle.ct_grammar.specs.declared.term.Term.{Term}
use Rattle.ct_grammar.specs.declared.term.When.{When}
use Rattle.ct_grammar.specs.declared.term.When.TheVariants.{Now, Ever, Never}
use Rattle.ct_grammar.specs.declared.term.Whom.{Whom}
use Rattle.ct_grammar.specs.declared.term.Whom.TheVariants as whom
use Rattle.ct_progress.specs.Progress.{is_settled, is_stuck}
use Rattle.ct_play.specs.Claims.{amount_of, was_other}
use Rattle.ct_play.specs.Facts.{is_named}
use Rattle.ct_play.specs.Picking.{is_carried, is_so}
use Rattle.ct_play.specs.Played.{Played, first_part}
use Rattle.ct_laws.specs.Expectations.{HasEstimate, IsSo}
use Rattle.ct_laws.specs.Facts.{Stands}

-- ---- claims

abbrev pub IsEnough : Extent → ℕ → Type 0
IsEnough (Exactly n) count = count ≡ n
IsEnough (AtLeast n) count = n ≤ count

-- p got an estimate of q for its round, and the rules refuse it the choice of that one, for this reason
pub record RefusesHeard (w : Rehearsal) (p : ℕ) (reason : Reason) (q : ℕ) : Type 0 where
  pub member : IsMember w.setting.members q
  pub one : IsIn q everyone
  pub heard : Stands w p (λ c. HasEstimate w p c.round q)
  pub refusal : Refusal
  pub by : reason ≡ Rules refusal
  pub cause : cause w (Choose p q) ≡ Some refusal

-- the first messages of both names are there, and that of the first stands earlier
abbrev pub IsBefore : List Message → Name → Name → Type 0
IsBefore list one other =
    (i j : ℕ) × (position (is_named one) list ≡ Some i) × (position (is_named other) list ≡ Some j) × (i < j)

-- it is the last step of the record
abbrev pub EndsWith : Rehearsal → Step → Type 0
EndsWith w step = (before : List Step) × (w.steps ≡ before ++ step ∷ [])

-- nothing that p received is the proposal of that round of its instance
abbrev pub HasNoProposal : Rehearsal → ℕ → ℕ → Type 0
HasNoProposal w p round = (k : ℕ) → IsIn (Receive p k) w.steps →
    is_carried (Prop (member_of w p).last round) (option_map without_value (at_serial (state_of w).sent k)) ≡ false

-- p's estimate of q has a ts above 0, and p never received the proposal of that round
abbrev pub IsUnseen : Rehearsal → ℕ → ℕ → Type 0
IsUnseen w p q = (v : Value) × (ts : ℕ) × (heard_by (member_of w p) q ≡ Some (v, ts)) × (1 ≤ ts) × HasNoProposal w p ts

-- an envelope that is such was sent
abbrev pub WasSent : Rehearsal → (ℕ → Bool) → Type 0
WasSent w test = (k : ℕ) × (1 ≤ k) × (k ≤ length (state_of w).sent) × (test k ≡ true)

-- the coordinator of the round is up
abbrev pub IsLed : Rehearsal → ℕ → Type 0
IsLed w round = is_crashed (state_of w) (coordinator w.setting.members round) ≡ false

-- p sent the decision of its instance in that round, and one of another round was sent
abbrev pub DecidesAgain : Rehearsal → ℕ → ℕ → Type 0
DecidesAgain w p round =
    WasSent w (is_so w (Dec (member_of w p).last round) (Some p)) × WasSent w (was_other w (member_of w p).last round)

-- the claim is true of member p; what that means of the last two, laws of ct_progress say
abbrev pub Claims : Played → ℕ → Claim → Type 0
Claims s p (claim.Fact fact) = IsSo s p fact
Claims s p (claim.Amount what extent) = IsEnough extent (amount_of s.rehearsal p what)
Claims s p (claim.Got k) = (value : Value) × HasDecided (state_of s.rehearsal) p k value
Claims s p (claim.RefusesChoice reason) = (q : ℕ) × RefusesHeard s.rehearsal p reason q
Claims s p (claim.Before one other) = IsBefore (delivered (member_of s.rehearsal p)) one other
Claims s p claim.SuspectsUp = EndsWith s.rehearsal (Suspect p) × Stands s.rehearsal p (λ c. IsLed s.rehearsal c.round)
Claims s p (claim.Follows k) = EndsWith s.rehearsal (Follow p) × ((member_of s.rehearsal p).last ≡ k)
Claims s p claim.ChoosesUnseen = (q : ℕ) × EndsWith s.rehearsal (Choose p q) × IsUnseen s.rehearsal p q
Claims s p claim.ConcludesAgain =
    EndsWith s.rehearsal (Conclude p) × Stands s.rehearsal p (λ c. DecidesAgain s.rehearsal p c.round)
Claims s p claim.Settled = is_settled s.rehearsal p ≡ true
Claims s p claim.Stuck = is_stuck s.rehearsal p ≡ true

-- ---- of whom

-- it is true of each that is named; of one member of the group; of each of the group, or of each that is up
abbrev pub IsOf : Played → Whom → Claim → Type 0
IsOf s (whom.One p) claim = IsMember s.rehearsal.setting.members p × Claims s p claim
IsOf s (whom.Some set) claim = (p : ℕ) → IsIn p set → IsMember s.rehearsal.setting.members p × Claims s p claim
IsOf s whom.Any claim = (p : ℕ) × IsMember s.rehearsal.setting.members p × Claims s p claim
IsOf s whom.All claim = (p : ℕ) → IsMember s.rehearsal.setting.members p → Claims s p claim
IsOf s whom.Up claim =
    (p : ℕ) → IsMember s.rehearsal.setting.members p → is_crashed (state_of s.rehearsal) p ≡ false → Claims s p claim

-- ---- when

-- the term is true of a stage
abbrev pub IsAt : Played → Term → Type 0
IsAt s term = IsOf s term.whom term.claim

-- now; at the beginning of so many steps, for one number of them; for none
abbrev pub IsWhen : When → Played → Term → Type 0
IsWhen Now s term = IsAt s term
IsWhen Ever s term = (n : ℕ) × (n ≤ length s.rehearsal.steps) × IsAt (first_part s n) term
IsWhen Never s term = (n : ℕ) → n ≤ length s.rehearsal.steps → IsAt (first_part s n) term → ⊥

-- each term of the goal is, when it has to be
abbrev pub AreMet : Played → Goal → Type 0
AreMet s goal = (term : Term) → IsIn term goal → IsWhen term.when s term
