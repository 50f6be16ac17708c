use Rattle.ct_model.proofs.Record.Start.{lawful-first}
use Rattle.ct_model.proofs.Record.Allowed.{cause-allowed, allowed-free, allowed-lawful}
use Rattle.ct_model.proofs.laws.law_cause.Goals as goal

pub returns-clause-first : goal.returns-clause-first
returns-clause-first c = lawful-first

pub returns-clause-longer : goal.returns-clause-longer
returns-clause-longer c = allowed-lawful

pub returns-clause-allowed : goal.returns-clause-allowed
returns-clause-allowed c = cause-allowed

pub returns-clause-free : goal.returns-clause-free
returns-clause-free c = allowed-free
