-- Begin.
use Rattle.std.proofs.Common.{◌≡◌, ℕ, ◌+◌, ◌<◌, false, [], ◌∷◌, refl, ◌∙◌, arith, Some, None}
use Rattle.std.specs.Prelude.{nat_lt}
use Rattle.ct_names.specs.declared.limit.TheConstants.{MAX_INSTANCES}
use Rattle.ct_names.specs.declared.refusal.Refusal.TheVariants.{Full}
use Rattle.ct_names.specs.declared.limit.Limit.TheVariants.{Instances}
use Rattle.ct_model.specs.declared.step.Step.TheVariants.{Begin}
use Rattle.ct_model.specs.State.{member}
use Rattle.ct_model.specs.Next.{begin, proposed, is_empty, row}
use Rattle.ct_model.specs.Rehearsal.{Rehearsal, state_of}
use Rattle.ct_model.specs.Cause.{at, first_fault, or_else, cause, overflow}
use Rattle.ct_model.specs.Lawful.{IsLawful, IsPresent}
use Rattle.ct_model.proofs.Record.Causes.{own_tests, cause-none}
use Rattle.ct_model.proofs.Record.Taken.{IsTaken}
use Rattle.ct_model.proofs.Steps.Rows.{IsReady}
use Rattle.ct_model.proofs.Record.Limits.{own_tests-is, cause-limited, limit-idle, last_of, taken_of}

module _ (w : Rehearsal) (p : ℕ) (h : first_fault (own_tests w (Begin p)) ≡ None) where
  -- what the tests of a Begin say where none fires
  begin-ready : IsReady w.setting (member (state_of w) p)
  begin-ready = grind (arith, own_tests-is)

  row-begin : row w.setting (state_of w) p (member (state_of w) p) (Begin p) ≡ Some (begin w.setting p (member (state_of w) p))
  row-begin = grind (arith, begin-ready)

pub cause-begin : (w : Rehearsal) (p : ℕ) → IsLawful w → IsPresent w p → first_fault (own_tests w (Begin p)) ≡ None
    → cause w (Begin p) ≡ or_else (first_fault (at (Full Instances) (nat_lt MAX_INSTANCES ((member (state_of w) p).last + 1)) ∷ []))
    (overflow w 0)
cause-begin w p law present h =
    cause-limited w (Begin p) present h ∙ limit-idle w (Begin p) (begin w.setting p (member (state_of w) p)) law present
    (row-begin w p h) refl refl

-- a Begin that is allowed
pub record IsBeginStep (w : Rehearsal) (p : ℕ) : Type 0 where
  pub idle : (member (state_of w) p).current ≡ None
  pub something : is_empty (proposed w.setting (member (state_of w) p)) ≡ false
  pub few : (member (state_of w) p).last < MAX_INSTANCES
  pub taken : IsTaken w (Begin p) (begin w.setting p (member (state_of w) p))

pub begin_taken : (w : Rehearsal) (p : ℕ) → IsLawful w → cause w (Begin p) ≡ None → IsBeginStep w p
begin_taken w p law none =
    let free = cause-none w (Begin p) none in
    let r = begin-ready w p free.tested in
    let taken = taken_of w (Begin p) (begin w.setting p (member (state_of w) p)) law none tt (row-begin w p free.tested) in
    let last = last_of w (Begin p) (begin w.setting p (member (state_of w) p)) law taken in
    record { idle = r.idle; something = r.something; few = omega arith; taken = taken }
