use Rattle.std.proofs.Common.{◌+◌, ap, sym, ◌∙◌}
use Rattle.ct_model.specs.declared.step.Step.TheVariants.{Follow}
use Rattle.ct_model.proofs.Record.Causes.{cause-absent}
use Rattle.ct_world.specs.Kept.{delivery_cause, rehearsal_of}
use Rattle.ct_world.proofs.Steps.Proposing.{copied-some}
use Rattle.ct_world.proofs.Delivery.Following.{follow_busy, follow_cause}
use Rattle.ct_world.proofs.Steps.Verdicts.{refused, verdict_by}
use Rattle.ct_world.proofs.kept.Kept.cause_of_follow.Goals as goal

pub returns-in_err-seat : goal.returns-in_err-seat
returns-in_err-seat c =
    refused c.from_residual.result c.from_residual.ensures.1
    (cause-absent (rehearsal_of c.args.self.now) (Follow c.args.member) _ c.in_err-seat.ensures)

pub returns-then-is_some : goal.returns-then-is_some
returns-then-is_some c = follow_busy c.in_ok-seat.ensures
    (copied-some c.current.result _ c.current.ensures.value ∙ sym c.is_some.ensures ∙ c.if-is_some.true)

pub returns : goal.returns
returns c =
    verdict_by c.cause_of_delivery.result
    (follow_cause c.in_ok-seat.ensures
    (copied-some c.current.result _ c.current.ensures.value ∙ sym c.is_some.ensures ∙ c.if-is_some.false)
    ∙ sym (ap (λ k. delivery_cause (rehearsal_of c.args.self.now) c.in_ok-seat.seat.now (k + 1)) c.last.ensures))
    c.cause_of_delivery.ensures
