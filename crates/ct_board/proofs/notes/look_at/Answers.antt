use Rattle.ct_board.proofs.Looks.{cells_of-set, known_of-set, notes_same, unknown_before, known_after, Keeps-set}
use Rattle.ct_board.proofs.notes.look_at.Goals as goal

pub returns-clause-cells : goal.returns-clause-cells
returns-clause-cells c = cells_of-set _ _ _ _ c.index_mut.ensures.value c.look.ensures.cell

pub returns-clause-some : goal.returns-clause-some
returns-clause-some c = known_of-set _ _ _ _ _ c.look.ensures.value

pub returns-clause-none : goal.returns-clause-none
returns-clause-none c = notes_same _ _ _ _ _ c.index_mut.ensures.value c.look.ensures.cell c.look.ensures.value

pub returns-clause-unknown : goal.returns-clause-unknown
returns-clause-unknown c = unknown_before _ _ _ _ _ c.requires.place c.index_mut.ensures.value c.look.ensures.value

pub returns-clause-known : goal.returns-clause-known
returns-clause-known c = known_after _ _ _ _ _ c.requires.place c.look.ensures.value

pub returns-clause-keeps : goal.returns-clause-keeps
returns-clause-keeps c = Keeps-set _ _ _ _ _ c.requires.place c.index_mut.ensures.value c.look.ensures.value
