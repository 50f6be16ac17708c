use Rattle.std.proofs.Common.{subst, ◌∙◌}
use Rattle.ct_model.specs.Lawful.{IsLawful}
use Rattle.ct_world.specs.Setup.{setting_of}
use Rattle.ct_merge.proofs.Standstills.{stopped_all}
use Rattle.ct_merge.proofs.furthest.stopped.Goals as goal

pub returns-clause-stopped : goal.returns-clause-stopped
returns-clause-stopped c =
    let law = subst IsLawful (c.world.ensures ∙ c.stage.ensures) c.lawful.ensures in
    stopped_all (setting_of c.args.setup) c.args.setup.cells c.args.logs.now
    (record { refused = c.furthest.new.refused; waiting = c.in_ok-waiting.waiting; run = c.into_world.result })
    c.in_ok-progress.progress c.deref.result.now law c.in_ok-progress.ensures.setting c.in_ok-progress.ensures.cells
    c.in_ok-progress.ensures.taken c.in_ok-progress.ensures.refused c.in_ok-waiting.ensures.stopped c.deref.ensures.value
    c.in_ok-waiting.ensures.each c.into_world.ensures
