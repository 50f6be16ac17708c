use Rattle.std.proofs.Common.{◌≡◌, None, replicate, take}
use Rattle.ct_board.specs.Notes.{cells_of, known_of}
use Rattle.ct_board.proofs.notes.note_each.Given as goal

abbrev pub invariant-loop-place : goal.invariant-loop-place
invariant-loop-place l = record {
  cells : cells_of l.notes.items ≡ take l.place l.board;
  known : known_of l.notes.items ≡ replicate l.place None;
}
