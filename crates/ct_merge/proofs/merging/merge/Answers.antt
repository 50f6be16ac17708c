use Rattle.std.proofs.Common.{ap, subst}
use Rattle.std.specs.Prelude.{IfOk}
use Rattle.ct_model.specs.Rehearsal.{Rehearsal}
use Rattle.ct_model.specs.Setting.{Setting}
use Rattle.ct_merge.specs.Verdicts.{IfRefused}
use Rattle.ct_merge.specs.Waits.{NeverMerges}
use Rattle.ct_merge.proofs.merging.merge.Goals as goal

pub returns-clause-refused : goal.returns-clause-refused
returns-clause-refused c =
    subst (λ (s : Setting). IfOk c.judge.result (λ verdict. IfRefused verdict (λ culprit. NeverMerges s c.args.logs.now)))
    (ap (λ (w : Rehearsal). w.setting) c.in_ok-progress.ensures.record) c.judge.ensures.refused
