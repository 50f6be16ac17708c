use Rattle.ct_model.specs.declared.step.Step.TheVariants.{Crash}
use Rattle.ct_model.proofs.Record.Causes.{cause-absent}
use Rattle.ct_model.proofs.Steps.Crash.{cause-crash}
use Rattle.ct_world.specs.Kept.{rehearsal_of}
use Rattle.ct_world.proofs.Steps.Verdicts.{refused, verdict_by}
use Rattle.ct_world.proofs.kept.Kept.cause_of_crash.Goals as goal

pub returns-in_err-actor : goal.returns-in_err-actor
returns-in_err-actor c =
    refused c.from_residual.result c.from_residual.ensures.1
    (cause-absent (rehearsal_of c.args.self.now) (Crash c.args.member) _ c.in_err-actor.ensures)

pub returns : goal.returns
returns c =
    let actor = c.in_ok-actor.ensures in
    verdict_by c.overflow.result (cause-crash (rehearsal_of c.args.self.now) c.args.member actor.lawful actor.present) c.overflow.ensures
