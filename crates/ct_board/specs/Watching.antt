-- What a watcher's fields stand for.
use Rattle.ct_board.specs.Notes.{cells_of, known_of}
use Rattle.ct_board.specs.Watched.{Watched}
use Rattle.ct_board.specs.declared.watcher.Watcher.TheInside.{Inside}

abbrev pub watched_of : Inside → Watched
watched_of w = record { cells = cells_of w.notes.items; notes = known_of w.notes.items; read = w.read; told = w.told }
