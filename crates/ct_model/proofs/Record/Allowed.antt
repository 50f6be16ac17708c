-- A step has no cause exactly where it is allowed.
use Rattle.std.specs.Prelude.{is_none}
use Rattle.std.proofs.Common.{arith, ◌≡◌, ℕ, ◌+◌, false, length, ap, sym, ◌∙◌, subst, Some, None}
use Rattle.ct_model.specs.declared.step.Step.{Step}
use Rattle.ct_model.specs.Actor.{actor}
use Rattle.ct_model.specs.State.{State, member}
use Rattle.ct_model.specs.Next.{Outcome, row, next}
use Rattle.ct_model.specs.Rehearsal.{Rehearsal, state_of, line_of, extended}
use Rattle.ct_model.specs.Cause.{first_fault, tests, limits, limit, cause}
use Rattle.ct_model.specs.Lawful.{IsLawful, IsWithin, NamesWaiting}
use Rattle.ct_model.specs.Allowed.{IsAllowed}
use Rattle.ct_model.specs.Phases.{enter, choose, adopt, suspect, conclude}
use Rattle.ct_model.proofs.Basics.Options.{some-of}
use Rattle.ct_model.proofs.Record.Causes.{own_tests, cause-none, cause-present}
use Rattle.ct_model.proofs.Record.Taken.{next-step, lawful-step}
use Rattle.ct_model.proofs.Relay.Messages.{next-is}
use Rattle.ct_model.proofs.Record.Limits.{own_tests-is, taken_of}
use Rattle.ct_model.proofs.Steps.Receive.{receive_waits}
use Rattle.ct_model.proofs.Steps.LineSteps.{waiting_sent, postpone_waits, lose_waits, repeat_away}

-- what a step without a cause takes or moves waits, what it puts back doesn't
pub names-free : (w : Rehearsal) (step : Step) → cause w step ≡ None → NamesWaiting w step
names-free w step none = grind (arith, receive_waits, postpone_waits, lose_waits, repeat_away)

-- what has no cause is allowed

enabled : (w : Rehearsal) (step : Step) → IsLawful w → NamesWaiting w step
    → first_fault (tests w.setting (state_of w) (member (state_of w) (actor step)) (line_of w (actor step)) step) ≡ None
    → is_none (row w.setting (state_of w) (actor step) (member (state_of w) (actor step)) step) ≡ false
unfolding enter choose adopt suspect conclude
enabled w step law names h = grind (arith, waiting_sent w)

pub cause-allowed : (w : Rehearsal) (step : Step) → IsLawful w → cause w step ≡ None → IsAllowed w step
cause-allowed w step law none =
    let names = names-free w step none in
    let tested = sym (ap first_fault (own_tests-is w step)) ∙ (cause-none w step none).tested in
    let o = some-of (row w.setting (state_of w) (actor step) (member (state_of w) (actor step)) step) (enabled w step law names tested) in
    let taken = taken_of w step o.0 law none names o.1 in
    search (taken, next-step w step o.0 law taken)

-- where a row gives an outcome and what the step names waits or not, as the step asks, no test of its own fires

pub row-free : (w : Rehearsal) (step : Step) (o : Outcome) → row w.setting (state_of w) (actor step) (member (state_of w) (actor step)) step
    ≡ Some o → NamesWaiting w step → first_fault (own_tests w step) ≡ None
unfolding enter choose adopt suspect conclude
row-free w step o is names = ap first_fault (own_tests-is w step) ∙ grind arith

-- where no limit is passed none is the cause
within-free : (cells steps : ℕ) (g : State) (p : ℕ) → IsWithin cells g steps → first_fault (limits cells steps g p) ≡ None
within-free cells steps g p within = grind (arith, within.few_submissions p, within.few_instances p, within.few_rounds p)

limit-free : (w : Rehearsal) (step : Step) (h : State) → next w.setting (state_of w) step ≡ Some h →
    IsWithin w.cells h (length w.steps + 1) → limit w step ≡ None
unfolding limit
limit-free w step h e within = grind (arith, within-free w.cells (length w.steps + 1) h (actor step) within)

-- what is allowed has no cause
pub allowed-free : (w : Rehearsal) (step : Step) → IsAllowed w step → cause w step ≡ None
allowed-free w step allowed =
    grind (arith, next-is w.setting (state_of w) step allowed.after allowed.enabled, cause-present, row-free, limit-free)

-- and a lawful record with it is lawful
pub allowed-lawful : (w : Rehearsal) (step : Step) → IsLawful w → IsAllowed w step → IsLawful (extended w step)
allowed-lawful w step law allowed =
    let s = next-is w.setting (state_of w) step allowed.after allowed.enabled in
    let within = subst (λ g. IsWithin w.cells g (length w.steps + 1)) (sym s.gives) allowed.within in
    lawful-step w step s.outcome law (search (s, allowed, within, allowed-free w step allowed))
