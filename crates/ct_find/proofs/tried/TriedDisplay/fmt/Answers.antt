use Rattle.ct_find.proofs.tried.TriedDisplay.fmt.Goals as goal

pub returns-clause-writes : goal.returns-clause-writes
returns-clause-writes g c = c.write.ensures.writes
