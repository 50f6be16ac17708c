use Rattle.std.proofs.Common.{◌≡◌}
use Rattle.ct_example.proofs.watch.Given as goal

abbrev pub invariant-loop : goal.invariant-loop
invariant-loop l = record {
  cells : l.watcher.cells ≡ l.initial.watcher.cells;
}
