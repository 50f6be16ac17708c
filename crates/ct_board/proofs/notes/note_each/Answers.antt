use Rattle.std.proofs.Common.{ap, ◌∙◌}
use Rattle.ct_board.specs.Notes.{cells_of, known_of}
use Rattle.ct_board.proofs.Looks.{cells_of-next, known_of-next}
use Rattle.ct_board.proofs.notes.note_each.Goals as goal

pub loop-place-preserved : goal.loop-place-preserved
loop-place-preserved c =
    let at = c.loop-place.invariant in
    let items = c.in_ok-push.ensures.items in
    record {
      cells = ap cells_of items ∙ cells_of-next _ _ _ _ at.cells c.note.ensures.cell;
      known = ap known_of items ∙ known_of-next _ _ _ at.known c.note.ensures.known;
    }
