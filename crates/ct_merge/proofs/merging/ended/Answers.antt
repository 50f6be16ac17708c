use Rattle.std.proofs.Common.{◌∙◌, subst, sym}
use Rattle.ct_model.specs.Lawful.{IsLawful}
use Rattle.ct_merge.specs.Stops.{IsCulprit}
use Rattle.ct_merge.proofs.Standing.{culprit_behind}
use Rattle.ct_merge.proofs.Verdicts.{none_waiting, refused_at}
use Rattle.ct_merge.proofs.merging.ended.Goals as goal

pub returns-in-Some-clause-refused : goal.returns-in-Some-clause-refused
returns-in-Some-clause-refused c =
    let t = c.args.progress in
    let logs = c.args.logs.now in
    let law = subst IsLawful (c.world.ensures ∙ c.stage.ensures) c.lawful.ensures in
    refused_at t.rehearsal.setting t.rehearsal.cells logs c.at.result c.behind.result c.at.ensures
    (subst (IsCulprit t.rehearsal.setting t.rehearsal.cells logs) (sym c.behind.ensures)
    (culprit_behind logs t c.in-Some.culprit c.into_world.result law c.requires.taken c.in-Some.ensures.culprit c.into_world.ensures))

pub returns-in-Some-clause-none : goal.returns-in-Some-clause-none
returns-in-Some-clause-none c =
    let t = c.args.progress in
    let logs = c.args.logs.now in
    let law = subst IsLawful (c.world.ensures ∙ c.stage.ensures) c.lawful.ensures in
    none_waiting logs c.at.result t c.behind.result c.in-Some.culprit c.at.ensures law c.requires.taken c.requires.waits
    c.in-Some.ensures.culprit
