-- Follow.
use Rattle.std.proofs.Common.{◌≡◌, ℕ, ◌+◌, ◌<◌, [], ◌∷◌, length, ◌∙◌, arith, Some, None}
use Rattle.std.specs.Prelude.{nat_lt}
use Rattle.ct_names.specs.declared.limit.TheConstants.{MAX_INSTANCES}
use Rattle.ct_names.specs.declared.limit.Limit.TheVariants.{Instances, Cells}
use Rattle.ct_names.specs.declared.refusal.Refusal.TheVariants.{Full}
use Rattle.ct_names.specs.Value.{Value}
use Rattle.ct_model.specs.declared.step.Step.TheVariants.{Follow}
use Rattle.ct_model.specs.State.{member}
use Rattle.ct_model.specs.Received.{decided}
use Rattle.ct_model.specs.Next.{follow, row}
use Rattle.ct_model.specs.Rehearsal.{Rehearsal, state_of}
use Rattle.ct_model.specs.Cause.{at, first_fault, or_else, cause, overflow}
use Rattle.ct_model.specs.Lawful.{IsLawful, IsPresent}
use Rattle.ct_model.proofs.Record.Causes.{own_tests, cause-none}
use Rattle.ct_model.proofs.Record.Taken.{IsTaken}
use Rattle.ct_model.proofs.Record.Limits.{own_tests-is, cause-limited, last_of, taken_of}
use Rattle.ct_model.proofs.Basics.Options.{some-of}
use Rattle.ct_model.proofs.Steps.Close.{limit-close}
use Rattle.ct_model.proofs.Steps.Rows.{IsBehind}

-- what the tests of a Follow say where none fires
follow-behind : (w : Rehearsal) (p : ℕ) → first_fault (own_tests w (Follow p)) ≡ None → IsBehind (member (state_of w) p)
follow-behind w p h = grind (arith, own_tests-is, some-of)

row-follow : (w : Rehearsal) (p : ℕ) (b : IsBehind (member (state_of w) p)) →
    row w.setting (state_of w) p (member (state_of w) p) (Follow p) ≡ Some (follow (member (state_of w) p) b.value)
row-follow w p b = grind arith

pub cause-follow : (w : Rehearsal) (p : ℕ) → IsLawful w → IsPresent w p → first_fault (own_tests w (Follow p)) ≡ None →
    cause w (Follow p) ≡ or_else (first_fault (at (Full Instances) (nat_lt MAX_INSTANCES ((member (state_of w) p).last + 1))
    ∷ at (Full Cells) (nat_lt w.cells (length (member (state_of w) p).batches + 1)) ∷ [])) (overflow w 0)
cause-follow w p law present h =
    let b = follow-behind w p h in
    cause-limited w (Follow p) present h
    ∙ limit-close w (Follow p) ((member (state_of w) p).last + 1) b.value law present (row-follow w p b)

-- a Follow that is allowed
pub record IsFollowStep (w : Rehearsal) (p : ℕ) : Type 0 where
  pub idle : (member (state_of w) p).current ≡ None
  pub value : Value
  pub decision : decided (member (state_of w) p).got ((member (state_of w) p).last + 1) ≡ Some value
  pub few : (member (state_of w) p).last < MAX_INSTANCES
  pub taken : IsTaken w (Follow p) (follow (member (state_of w) p) value)

pub follow_taken : (w : Rehearsal) (p : ℕ) → IsLawful w → cause w (Follow p) ≡ None → IsFollowStep w p
follow_taken w p law none =
    let free = cause-none w (Follow p) none in
    let b = follow-behind w p free.tested in
    let o = follow (member (state_of w) p) b.value in
    let taken = taken_of w (Follow p) o law none tt (row-follow w p b) in
    let last = last_of w (Follow p) o law taken in
    record { idle = b.idle; value = b.value; decision = b.decision; few = omega arith; taken = taken }
