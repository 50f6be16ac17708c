use Rattle.std.proofs.Common.{◌≡◌}
use Rattle.ct_world_tests.proofs.rehearse.watching.watch.Given as goal

abbrev pub invariant-loop : goal.invariant-loop
invariant-loop l = l.watcher.cells ≡ l.board
