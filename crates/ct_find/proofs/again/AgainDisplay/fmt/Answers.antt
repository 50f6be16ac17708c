use Rattle.ct_find.proofs.again.AgainDisplay.fmt.Goals as goal

pub returns-clause-writes : goal.returns-clause-writes
returns-clause-writes g c = rw (← c.as_str.ensures) c.write.ensures.writes
