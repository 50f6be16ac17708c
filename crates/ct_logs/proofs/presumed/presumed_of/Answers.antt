use Rattle.std.proofs.Common.{ap, take, ◌∙◌}
use Rattle.ct_logs.proofs.Merged.{judged_presumed}
use Rattle.ct_logs.proofs.presumed.presumed_of.Goals as goal

pub returns-clause-ok : goal.returns-clause-ok
returns-clause-ok c =
    let is = c.in_ok-verdict.ensures in
    judged_presumed c.with_lines.result c.args.setup c.args.set.now c.in_ok-verdict.field-0.verdict c.in_ok-logs.logs.items
    c.in_ok-verdict.field-0.logs.items (c.in_ok-logs.ensures.logs ∙ ap (λ n. take n c.args.set.now.logs) c.n.ensures.value)
    is.begun c.with_lines.ensures.verdict c.with_lines.ensures.stopped
    (record {
      merged = is.merged;
      setting = is.setting;
      cells = is.cells;
      culprit = is.culprit;
      told = is.told;
      refused = is.refused;
      none = is.none;
    })
