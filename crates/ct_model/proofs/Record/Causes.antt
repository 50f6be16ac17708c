-- The first test that fires, and the limits of a step that only sends.
use Rattle.std.proofs.Common.{◌≡◌, ℕ, ◌+◌, ◌≤◌, ◌<◌, false, List, [], ◌∷◌, length, refl, ap, ◌∙◌, arith, Option, Some, None}
use Rattle.std.specs.Prelude.{nat_lt}
pub use Rattle.std.proofs.lemmas.Bool.{le-ltb as low, lt-ltb as high, ltb-false as under}
use Rattle.ct_names.specs.declared.limit.TheConstants.{MAX_ENVELOPES, MAX_STEPS}
use Rattle.ct_names.specs.declared.limit.Limit.TheVariants.{Envelopes, Steps}
use Rattle.ct_names.specs.declared.refusal.Refusal.{Refusal}
use Rattle.ct_names.specs.declared.refusal.Refusal.TheVariants.{Full}
use Rattle.ct_model.specs.declared.step.Step.{Step}
use Rattle.ct_model.specs.Actor.{actor}
use Rattle.ct_model.specs.State.{Member, member}
use Rattle.ct_model.specs.Rehearsal.{Rehearsal, state_of, line_of}
use Rattle.ct_model.specs.Cause.{Test, at, first_fault, presence, tests, limit, or_else, cause, overflow}
use Rattle.ct_model.specs.Lawful.{IsPresent}

pub or_else-none : (o rest : Option Refusal) → or_else o rest ≡ None → (o ≡ None) × (rest ≡ None)
or_else-none o rest h = grind arith

-- where no test fires, the first doesn't and no later one does
pub first_fault-none : (test : Test) (rest : List Test) → first_fault (test ∷ rest) ≡ None →
    (test.fires ≡ false) × (first_fault rest ≡ None)
first_fault-none test rest h = (grind arith, grind arith)

pub present-none : (w : Rehearsal) (p : ℕ) → IsPresent w p → first_fault (presence w.setting (state_of w) p) ≡ None
present-none w p h = rw (h.in_group, h.up) refl

pub none-present : (w : Rehearsal) (p : ℕ) → first_fault (presence w.setting (state_of w) p) ≡ None → IsPresent w p
none-present w p h = grind arith

-- the tests of its own that a step has
unfoldable pub own_tests : Rehearsal → Step → List Test
own_tests w step = tests w.setting (state_of w) (member (state_of w) (actor step)) (line_of w (actor step)) step

pub cause-is : (w : Rehearsal) (step : Step) → cause w step ≡ or_else (first_fault (presence w.setting (state_of w) (actor step)))
    (or_else (first_fault (own_tests w step)) (limit w step))
cause-is w step = unfold cause own_tests in refl

pub cause-present : (w : Rehearsal) (step : Step) → IsPresent w (actor step) →
    cause w step ≡ or_else (first_fault (own_tests w step)) (limit w step)
cause-present w step h = grind (arith, cause-is w step, present-none w (actor step) h)

-- what no refusal says
pub record IsFree (w : Rehearsal) (step : Step) : Type 0 where
  pub present : IsPresent w (actor step)
  pub tested : first_fault (own_tests w step) ≡ None
  pub limited : limit w step ≡ None

pub cause-none : (w : Rehearsal) (step : Step) → cause w step ≡ None → IsFree w step
cause-none w step h = grind (arith, or_else-none, cause-is)

-- the member has the instances and batches that it had
pub record IsKept (old new : Member) : Type 0 where
  pub last : new.last ≡ old.last
  pub current : new.current ≡ old.current
  pub batches : new.batches ≡ old.batches

pub overflow-is : (w : Rehearsal) (more : ℕ) → overflow w more
    ≡ first_fault (at (Full Envelopes) (nat_lt MAX_ENVELOPES (length (state_of w).sent + more))
    ∷ at (Full Steps) (nat_lt MAX_STEPS (length w.steps + 1)) ∷ [])
overflow-is w more = unfold overflow in refl

pub overflow-sent : (w : Rehearsal) (more : ℕ) → MAX_ENVELOPES < length (state_of w).sent + more → overflow w more ≡ Some (Full Envelopes)
overflow-sent w more many = overflow-is w more ∙ rw (high MAX_ENVELOPES (length (state_of w).sent + more) many) refl

pub overflow-steps : (w : Rehearsal) (more : ℕ) → length (state_of w).sent + more ≤ MAX_ENVELOPES → MAX_STEPS < length w.steps + 1 →
    overflow w more ≡ Some (Full Steps)
overflow-steps w more few many = grind (arith, overflow-is, low)

pub overflow-no : (w : Rehearsal) (more : ℕ) → length (state_of w).sent + more ≤ MAX_ENVELOPES → length w.steps + 1 ≤ MAX_STEPS →
    overflow w more ≡ None
overflow-no w more few less = grind (arith, overflow-is)

-- what keeps a member from any step is the cause
pub cause-absent : (w : Rehearsal) (step : Step) (refusal : Refusal) →
    first_fault (presence w.setting (state_of w) (actor step)) ≡ Some refusal → cause w step ≡ Some refusal
cause-absent w step refusal e = cause-is w step ∙ ap (λ o. or_else o (or_else (first_fault (own_tests w step)) (limit w step))) e
