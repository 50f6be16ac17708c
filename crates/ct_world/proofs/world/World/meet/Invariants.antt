use Rattle.std.proofs.Common.{◌≡◌}
use Rattle.ct_model.specs.Cause.{order}
use Rattle.ct_model.specs.Rehearsal.{state_of}
use Rattle.ct_board.specs.Known.{Keeps}
use Rattle.ct_board.specs.Watched.{batches_read, batches_told}
use Rattle.ct_board.proofs.Meeting.{KnowsBelow}
use Rattle.ct_world.proofs.world.World.meet.Given as goal

abbrev pub invariant-loop-place : goal.invariant-loop-place
invariant-loop-place l = record {
  cells : l.watcher.cells ≡ l.fn.watcher.cells;
  read : l.watcher.read ≡ l.fn.watcher.read;
  told : l.watcher.told ≡ l.fn.watcher.told;
  batches_read : batches_read l.watcher ≡ batches_read l.fn.watcher;
  batches_told : batches_told l.watcher ≡ batches_told l.fn.watcher;
  keeps : Keeps l.fn.watcher.notes l.watcher.notes;
  known : KnowsBelow (order (state_of l.fn.self.rehearsal)) l.watcher.notes l.place;
}
