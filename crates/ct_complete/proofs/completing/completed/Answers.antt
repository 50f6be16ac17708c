use Rattle.std.proofs.Common.{◌∙◌, ◌++◌, ◌∷◌, [], ap}
use Rattle.ct_model.specs.Rehearsal.{Rehearsal}
use Rattle.ct_records.specs.Text.{record_text}
use Rattle.ct_records.specs.View.{rehearsal_of}
use Rattle.ct_settled.specs.Settled.{AreDone}
use Rattle.ct_complete.proofs.Ending.{completed_is, handed_on, staged_is}
use Rattle.ct_complete.proofs.completing.completed.Goals as goal

pub returns-in-Ok-clause-ok : goal.returns-in-Ok-clause-ok
returns-in-Ok-clause-ok c =
    let done : AreDone c.complete.new.stage = c.in_ok-complete.ensures.done c.in-None.is in
    completed_is (rehearsal_of c.args.script.now) c.in_ok-stage.stage c.complete.new.stage c.in-Ok.line.items
    (staged_is c.setup.result c.deref.result.now (rehearsal_of c.args.script.now) c.in_ok-stage.stage c.in_ok-stage.ensures.ok
    c.deref.ensures.value c.setup.ensures)
    c.in_ok-replay.ensures.allowed c.in_ok-complete.ensures.played done
    (c.in-Ok.ensures ∙ ap (λ (w : Rehearsal). record_text w ++ 10 ∷ []) c.world.ensures)

pub returns-in_err-complete-clause-fault : goal.returns-in_err-complete-clause-fault
returns-in_err-complete-clause-fault c =
    handed_on (rehearsal_of c.args.script.now) c.from_residual-in_err-complete.result c.in_err-complete.field-0.0
    c.from_residual-in_err-complete.ensures.1

pub returns-in_err-told-in-Some-clause-fault : goal.returns-in_err-told-in-Some-clause-fault
returns-in_err-told-in-Some-clause-fault c =
    handed_on (rehearsal_of c.args.script.now) c.from_residual-in_err-told-in-Some.result c.in_err-told-in-Some.field-0.0
    c.from_residual-in_err-told-in-Some.ensures.1
