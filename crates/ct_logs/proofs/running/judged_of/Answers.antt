use Rattle.std.proofs.Common.{ap, take, ◌∙◌}
use Rattle.ct_logs.proofs.Merged.{judged_once}
use Rattle.ct_logs.proofs.running.judged_of.Goals as goal

pub returns-clause-ok : goal.returns-clause-ok
returns-clause-ok c =
    let is = c.in_ok-verdict.ensures in
    judged_once c.with_stopped.result c.args.setup c.args.set.now c.in_ok-verdict.verdict c.logs-logs.result.now
    (c.logs-logs.ensures ∙ ap (λ n. take n c.args.set.now.logs) c.n.ensures.value)
    c.with_stopped.ensures.verdict c.with_stopped.ensures.stopped
    (record {
      merged = is.merged;
      setting = is.setting;
      cells = is.cells;
      culprit = is.culprit;
      told = is.told;
      refused = is.refused;
      none = is.none;
    })
