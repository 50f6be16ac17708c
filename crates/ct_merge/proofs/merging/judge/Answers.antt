use Rattle.std.proofs.Common.{rules, ◌≡◌, true, subst}
use Rattle.ct_model.specs.Setting.{Setting}
use Rattle.ct_merge.specs.Stops.{IsCulprit}
use Rattle.ct_merge.specs.Verdicts.{IfRefused, IfStopped}
use Rattle.ct_merge.specs.Waits.{HasNoMerge, NeverMerges, is_wait}
use Rattle.ct_merge.proofs.Halting.{is_culprit}
use Rattle.ct_merge.proofs.Verdicts.{refused_at}
use Rattle.ct_merge.proofs.merging.judge.Goals as goal

pub returns-in-Ok-clause-refused : goal.returns-in-Ok-clause-refused
returns-in-Ok-clause-refused c =
    subst (λ (s : Setting). IfRefused c.ended.result (λ culprit. NeverMerges s c.args.logs.now)) c.in-Ok.ensures.later.setting
    c.ended.ensures.refused

pub returns-in-Ok-clause-none : goal.returns-in-Ok-clause-none
returns-in-Ok-clause-none c =
    subst (λ (s : Setting). IfStopped c.ended.result (λ culprit. is_wait culprit.why ≡ true → HasNoMerge s c.args.logs.now))
    c.in-Ok.ensures.later.setting c.ended.ensures.none

pub returns-clause-refused : goal.returns-clause-refused
returns-clause-refused c =
    let w = c.args.progress.rehearsal in
    let it : IsCulprit w.setting w.cells c.args.logs.now c.halted.result = search (rules, is_culprit) in
    refused_at w.setting w.cells c.args.logs.now c.at.result c.halted.result c.at.ensures it
