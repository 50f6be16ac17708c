use Rattle.std.proofs.Common.{sym}
use Rattle.ct_board.proofs.Somes.{length-somes}
use Rattle.ct_board.proofs.watcher.Watcher.read.Goals as goal

pub returns-clause-batches : goal.returns-clause-batches
returns-clause-batches c =
    let w = c.self.invariant.0 in
    rw (← c.self.view_is) (sym (length-somes _ _ w.read_known w.read_within))
