use Rattle.std.proofs.Common.{ap, sym, ◌∙◌}
use Rattle.std.specs.Prelude.{not}
use Rattle.ct_model.specs.declared.step.Step.TheVariants.{Deliver}
use Rattle.ct_model.proofs.Record.Causes.{cause-absent}
use Rattle.ct_world.specs.Kept.{delivery_cause, rehearsal_of}
use Rattle.ct_world.proofs.Steps.Proposing.{copied-some}
use Rattle.ct_world.proofs.Delivery.Delivering.{deliver_idle, deliver_cause}
use Rattle.ct_world.proofs.Steps.Verdicts.{refused, verdict_by}
use Rattle.ct_world.proofs.kept.Kept.cause_of_deliver.Goals as goal

pub returns-in_err-seat : goal.returns-in_err-seat
returns-in_err-seat c =
    refused c.from_residual.result c.from_residual.ensures.1
    (cause-absent (rehearsal_of c.args.self.now) (Deliver c.args.member) _ c.in_err-seat.ensures)

pub returns-then-is_none : goal.returns-then-is_none
returns-then-is_none c = deliver_idle c.in_ok-seat.ensures
    (copied-some c.current.result _ c.current.ensures.value ∙ c.is_none.ensures ∙ ap not c.if-is_none.true)

pub returns : goal.returns
returns c =
    verdict_by c.cause_of_delivery.result
    (deliver_cause c.in_ok-seat.ensures
    (copied-some c.current.result _ c.current.ensures.value ∙ c.is_none.ensures ∙ ap not c.if-is_none.false)
    ∙ sym (ap (delivery_cause (rehearsal_of c.args.self.now) c.in_ok-seat.seat.now) c.last.ensures))
    c.cause_of_delivery.ensures
