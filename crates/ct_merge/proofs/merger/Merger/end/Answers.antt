use Rattle.std.proofs.Common.{◌≡◌, ◌∙◌, List, ap, subst, true}
use Rattle.std.specs.Global.{Vec}
use Rattle.ct_model.specs.Setting.{Setting}
use Rattle.ct_merge.specs.Merging.{Growing}
use Rattle.ct_merge.specs.Verdicts.{IfRefused, IfStopped}
use Rattle.ct_merge.specs.Waits.{HasNoMerge, NeverMerges, is_wait}
use Rattle.ct_merge.specs.declared.log_line.LogLine.{LogLine}
use Rattle.ct_merge.proofs.merger.Merger.end.Goals as goal

pub returns-clause-refused : goal.returns-clause-refused
returns-clause-refused c =
    let verdict = c.in_ok-verdict.verdict in
    let logs : c.deref.result.now ≡ c.args.self.logs = c.deref.ensures.value ∙ ap (λ (m : Growing). m.logs) c.self.view_is in
    subst (λ (l : List (Vec LogLine)). IfRefused verdict (λ culprit. NeverMerges c.args.self.setting l)) logs
    (subst (λ (s : Setting). IfRefused verdict (λ culprit. NeverMerges s c.deref.result.now))
    (ap (λ (m : Growing). m.setting) c.self.view_is) c.in_ok-verdict.ensures.refused)

pub returns-clause-none : goal.returns-clause-none
returns-clause-none c =
    let verdict = c.in_ok-verdict.verdict in
    let logs : c.deref.result.now ≡ c.args.self.logs = c.deref.ensures.value ∙ ap (λ (m : Growing). m.logs) c.self.view_is in
    subst (λ (l : List (Vec LogLine)). IfStopped verdict (λ culprit. is_wait culprit.why ≡ true → HasNoMerge c.args.self.setting l)) logs
    (subst (λ (s : Setting). IfStopped verdict (λ culprit. is_wait culprit.why ≡ true → HasNoMerge s c.deref.result.now))
    (ap (λ (m : Growing). m.setting) c.self.view_is) c.in_ok-verdict.ensures.none)
