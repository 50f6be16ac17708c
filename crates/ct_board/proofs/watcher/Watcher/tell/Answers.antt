use Rattle.std.proofs.Common.{arith, length, ap}
use Rattle.ct_board.specs.Notes.{known_of}
use Rattle.ct_board.specs.Watched.{Watched}
use Rattle.ct_board.proofs.Somes.{somes_begin}
use Rattle.ct_board.proofs.watcher.Watcher.tell.Goals as goal

pub returns-clause-longer : goal.returns-clause-longer
returns-clause-longer c =
    let w = c.self.invariant.0 in
    let one_each = w.one_each in
    let cells = ap (λ (v : Watched). length v.cells) c.self.view_is in
    let told = ap (λ (v : Watched). v.told) c.self.view_is in
    let known = rw (← c.self.view_is) at c.requires.known in
    rw (← c.self.view_is) (somes_begin c.self.inside.told c.args.number (known_of c.self.inside.notes.items) (omega arith) known
    (omega arith))
