use Rattle.std.proofs.Common.{List, refl, subst}
use Rattle.ct_model.specs.declared.step.Step.{Step}
use Rattle.ct_records.specs.View.{rehearsal_of}
use Rattle.ct_world.specs.Replay.{IsFaultOf}
use Rattle.ct_views.specs.declared.view.View.TheVariants.{Report}
use Rattle.ct_views.proofs.Stepping.{answer_without}
use Rattle.ct_views.proofs.answer.report_of.Goals as goal

pub returns-in-Err-clause-ok : goal.returns-in-Err-clause-ok
returns-in-Err-clause-ok c =
    let fault = c.in-Err.fault in
    let w = rehearsal_of c.args.script.now in
    answer_without Report w c.without_text.result fault
    (subst (λ (steps : List Step). IsFaultOf w.setting w.cells steps fault.at fault.refusal) c.deref.ensures.value c.in-Err.ensures.err)
    refl c.without_text.ensures.text c.without_text.ensures.fault c.without_text.ensures.not_memory
