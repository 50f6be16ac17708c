use Rattle.std.proofs.Common.{arith}
use Rattle.ct_board.specs.Watched.{batches_read}
use Rattle.ct_board.specs.Watching.{watched_of}
use Rattle.ct_board.proofs.Reading.{read_on, table-next, none_below, all_read}
use Rattle.ct_board.proofs.watcher.Watcher.next.Goals as goal

pub returns-then-self-len-clause-below : goal.returns-then-self-len-clause-below
returns-then-self-len-clause-below c =
    let full = c.if-self-len.true in
    rw (← c.self.view_is) (all_read _ _ _ c.self.invariant.0 (omega arith))

pub returns-in_err-batch-clause-below : goal.returns-in_err-batch-clause-below
returns-in_err-batch-clause-below c = rw (← c.self.view_is) (λ less. absurd
    (none_below _ _ _ c.self.invariant.0 c.in_err-batch.ensures.unknown less))

pub invariant_of-self-2 : goal.invariant_of-self-2
invariant_of-self-2 c =
    let h = c.in_ok-batch.ensures in
    let on = read_on _ _ _ _ _ h.cells h.keeps (omega arith) h.known c.self.invariant.0 in (
      on.watching,
      grind (arith, on.read, c.self.invariant.1, table-next (batches_read (watched_of c.self.inside)) c.in_ok-batch.batch.now),
    )

pub returns-clause-told : goal.returns-clause-told
returns-clause-told c =
    let h = c.in_ok-batch.ensures in
    rw (← c.self.view_is) ((read_on _ _ _ _ _ h.cells h.keeps (omega arith) h.known c.self.invariant.0).told)

pub returns-clause-read : goal.returns-clause-read
returns-clause-read c =
    let h = c.in_ok-batch.ensures in
    rw (← c.self.view_is) ((read_on _ _ _ _ _ h.cells h.keeps (omega arith) h.known c.self.invariant.0).read)

pub returns-clause-below : goal.returns-clause-below
returns-clause-below c =
    let h = c.in_ok-batch.ensures in
    rw (← c.self.view_is) ((read_on _ _ _ _ _ h.cells h.keeps (omega arith) h.known c.self.invariant.0).below)
