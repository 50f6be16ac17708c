use Rattle.std.proofs.Common.{subst, sym}
use Rattle.ct_logs.specs.Sets.{AreFirstLines}
use Rattle.ct_logs.proofs.Merged.{stand_first}
use Rattle.ct_logs.proofs.presumed.with_lines.Goals as goal

pub returns-clause-stopped : goal.returns-clause-stopped
returns-clause-stopped c =
    let first = c.deref-2.result.now in
    stand_first c.with_told-judged.result c.args.setup first c.args.logs.items
    (subst (λ l. AreFirstLines l c.args.logs.items) (sym c.deref-2.ensures.value) c.cut_all.ensures) c.with_told-judged.ensures.stopped
