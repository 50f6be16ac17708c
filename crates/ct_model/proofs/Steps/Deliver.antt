-- Deliver.
use Rattle.std.proofs.Common.{arith, ◌≡◌, ℕ, ◌+◌, [], ◌∷◌, length, ap, ◌∙◌, Some, None}
use Rattle.std.specs.Prelude.{nat_lt, is_none}
use Rattle.ct_names.specs.declared.limit.TheConstants.{MAX_INSTANCES}
use Rattle.ct_names.specs.declared.limit.Limit.TheVariants.{Instances, Cells}
use Rattle.ct_names.specs.declared.refusal.Refusal.TheVariants.{Undecided, Full}
use Rattle.ct_names.specs.Value.{Value}
use Rattle.ct_model.specs.declared.step.Step.TheVariants.{Deliver}
use Rattle.ct_model.specs.AtValue.{Standing}
use Rattle.ct_model.specs.State.{member}
use Rattle.ct_model.specs.Received.{decided}
use Rattle.ct_model.specs.Next.{deliver, row}
use Rattle.ct_model.specs.Rehearsal.{Rehearsal, state_of}
use Rattle.ct_model.specs.Cause.{at, first_fault, or_else, cause, overflow}
use Rattle.ct_model.specs.Lawful.{IsLawful, IsPresent}
use Rattle.ct_model.proofs.Record.Causes.{low, own_tests, cause-none}
use Rattle.ct_model.proofs.Record.Taken.{IsTaken}
use Rattle.ct_model.proofs.Record.Limits.{own_tests-is, cause-limited, taken_of}
use Rattle.ct_model.proofs.Steps.Close.{limit-close}
use Rattle.ct_model.proofs.Steps.Rows.{IsDue}
use Rattle.ct_model.proofs.Steps.Rounds.{open-standing}

pub tests-deliver : (w : Rehearsal) (p : ℕ) (c : Standing) → (member (state_of w) p).current ≡ Some c →
    first_fault (own_tests w (Deliver p)) ≡ first_fault (at Undecided
    (is_none (decided (member (state_of w) p).got (member (state_of w) p).last)) ∷ [])
tests-deliver w p c e = grind (arith, own_tests-is)

-- what the tests of a Deliver say where none fires
deliver-due : (w : Rehearsal) (p : ℕ) → first_fault (own_tests w (Deliver p)) ≡ None → IsDue (member (state_of w) p)
deliver-due w p h = grind (arith, open-standing, own_tests-is)

row-deliver : (w : Rehearsal) (p : ℕ) (d : IsDue (member (state_of w) p)) →
    row w.setting (state_of w) p (member (state_of w) p) (Deliver p) ≡ Some (deliver (member (state_of w) p) d.value)
row-deliver w p d = grind arith

pub cause-deliver : (w : Rehearsal) (p : ℕ) → IsLawful w → IsPresent w p → first_fault (own_tests w (Deliver p)) ≡ None →
    cause w (Deliver p) ≡ or_else (first_fault (at (Full Cells) (nat_lt w.cells (length (member (state_of w) p).batches + 1)) ∷ []))
    (overflow w 0)
cause-deliver w p law present h =
    let d = deliver-due w p h in
    let m = member (state_of w) p in
    cause-limited w (Deliver p) present h
    ∙ limit-close w (Deliver p) m.last d.value law present (row-deliver w p d)
    ∙ ap (λ b. or_else (first_fault (at (Full Instances) b ∷ at (Full Cells) (nat_lt w.cells (length m.batches + 1)) ∷ [])) (overflow w 0))
    (low MAX_INSTANCES m.last (law.within.few_instances p))

-- a Deliver that is allowed
pub record IsDeliverStep (w : Rehearsal) (p : ℕ) : Type 0 where
  pub standing : Standing
  pub is_open : (member (state_of w) p).current ≡ Some standing
  pub value : Value
  pub decision : decided (member (state_of w) p).got (member (state_of w) p).last ≡ Some value
  pub taken : IsTaken w (Deliver p) (deliver (member (state_of w) p) value)

pub deliver_taken : (w : Rehearsal) (p : ℕ) → IsLawful w → cause w (Deliver p) ≡ None → IsDeliverStep w p
deliver_taken w p law none =
    let d = deliver-due w p (cause-none w (Deliver p) none).tested in
    search (d, taken_of w (Deliver p) (deliver (member (state_of w) p) d.value) law none tt (row-deliver w p d))
