use Rattle.std.proofs.Common.{sym, ◌∙◌, arith}
use Rattle.ct_model.specs.declared.step.Step.TheVariants.{Begin}
use Rattle.ct_model.proofs.Record.Causes.{cause-absent}
use Rattle.ct_world.proofs.Steps.Proposing.{copied-some, begin_busy, begin_nothing, begin_full, begin_free}
use Rattle.ct_world.specs.Kept.{rehearsal_of}
use Rattle.ct_world.proofs.Steps.Verdicts.{refused, verdict_by}
use Rattle.ct_world.proofs.kept.Kept.cause_of_begin.Goals as goal

pub returns-in_err-seat : goal.returns-in_err-seat
returns-in_err-seat c =
    refused c.from_residual.result c.from_residual.ensures.1
    (cause-absent (rehearsal_of c.args.self.now) (Begin c.args.member) _ c.in_err-seat.ensures)

pub returns-then-is_some : goal.returns-then-is_some
returns-then-is_some c = begin_busy c.in_ok-seat.ensures
    (copied-some c.current.result _ c.current.ensures.value ∙ sym c.is_some.ensures ∙ c.if-is_some.true)

pub returns-then-not-has_undelivered : goal.returns-then-not-has_undelivered
returns-then-not-has_undelivered c = begin_nothing c.in_ok-seat.ensures
    (copied-some c.current.result _ c.current.ensures.value ∙ sym c.is_some.ensures ∙ c.if-is_some.false)
    (sym c.has_undelivered.ensures ∙ c.if-not-has_undelivered.true)

pub returns-then-last-ge-MAX_INSTANCES : goal.returns-then-last-ge-MAX_INSTANCES
returns-then-last-ge-MAX_INSTANCES c = begin_full c.in_ok-seat.ensures
    (copied-some c.current.result _ c.current.ensures.value ∙ sym c.is_some.ensures ∙ c.if-is_some.false)
    (sym c.has_undelivered.ensures ∙ c.if-not-has_undelivered.false) (omega (arith, c.last.ensures, c.if-last-ge-MAX_INSTANCES.true))

pub returns : goal.returns
returns c = verdict_by c.overflow.result (begin_free c.in_ok-seat.ensures
    (copied-some c.current.result _ c.current.ensures.value ∙ sym c.is_some.ensures ∙ c.if-is_some.false)
    (sym c.has_undelivered.ensures ∙ c.if-not-has_undelivered.false) (omega (arith, c.last.ensures, c.if-last-ge-MAX_INSTANCES.false)))
    c.overflow.ensures
