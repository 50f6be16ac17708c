-- Crash.
use Rattle.std.proofs.Common.{◌≡◌, ℕ, refl, ap, ◌∙◌, None}
use Rattle.ct_model.specs.declared.step.Step.TheVariants.{Crash}
use Rattle.ct_model.specs.State.{member}
use Rattle.ct_model.specs.Next.{Outcome, crash}
use Rattle.ct_model.specs.Rehearsal.{Rehearsal, state_of}
use Rattle.ct_model.specs.Cause.{first_fault, cause, overflow}
use Rattle.ct_model.specs.Lawful.{IsLawful, IsPresent}
use Rattle.ct_model.proofs.Record.Taken.{IsTaken}
use Rattle.ct_model.proofs.Record.Limits.{own_tests-is, cause-limited, limit-overflow, taken_of}

unfoldable pub crash_outcome : Rehearsal → ℕ → Outcome
crash_outcome w p = crash (member (state_of w) p)

pub crash_outcome-is : (w : Rehearsal) (p : ℕ) → crash_outcome w p ≡ crash (member (state_of w) p)
crash_outcome-is w p = unfold crash_outcome in refl

pub cause-crash : (w : Rehearsal) (p : ℕ) → IsLawful w → IsPresent w p → cause w (Crash p) ≡ overflow w 0
cause-crash w p law present =
    cause-limited w (Crash p) present (ap first_fault (own_tests-is w (Crash p)))
    ∙ limit-overflow w (Crash p) (crash (member (state_of w) p)) law present refl refl
    (record { last = refl; current = refl; batches = refl })

-- a Crash that is allowed
pub crash_taken : (w : Rehearsal) (p : ℕ) → IsLawful w → cause w (Crash p) ≡ None → IsTaken w (Crash p) (crash_outcome w p)
unfolding crash_outcome
crash_taken w p law none = taken_of w (Crash p) (crash (member (state_of w) p)) law none tt refl
