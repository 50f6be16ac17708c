-- What a list of notes is of, and what it knows.
use Rattle.std.specs.Prelude.{ℕ, List, Option, map}
use Rattle.once_cell.specs.declared.race.note.Note.{Note}
use Rattle.ct_names.specs.Batch.{Batch}

-- the names of the cells that the notes are of
abbrev pub cells_of : List (Note Batch) → List ℕ
cells_of notes = map (λ note. note.cell) notes

-- what each of the notes knows
abbrev pub known_of : List (Note Batch) → List (Option Batch)
known_of notes = map (λ note. note.known) notes
