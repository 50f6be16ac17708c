use Rattle.std.proofs.Common.{◌∙◌, ap, sym}
use Rattle.ct_table.specs.Table.{table}
use Rattle.ct_board.specs.Watched.{messages_of}
use Rattle.ct_board.proofs.Reading.{looked}
use Rattle.ct_board.proofs.watcher.Watcher.look.Goals as goal

pub invariant_of-self : goal.invariant_of-self
invariant_of-self c =
    let kept = looked _ _ _ _ c.look_at.ensures.cells c.look_at.ensures.keeps c.self.invariant.0 in
    (kept.watching, c.self.invariant.1 ∙ ap (λ batches. table (messages_of batches)) (sym kept.read))

pub returns-clause-read : goal.returns-clause-read
returns-clause-read c =
    rw (← c.self.view_is) ((looked _ _ _ _ c.look_at.ensures.cells c.look_at.ensures.keeps c.self.invariant.0).read)

pub returns-clause-told : goal.returns-clause-told
returns-clause-told c =
    rw (← c.self.view_is) ((looked _ _ _ _ c.look_at.ensures.cells c.look_at.ensures.keeps c.self.invariant.0).told)
