use Rattle.ct_laws.proofs.Placing.{placed}
use Rattle.ct_laws.proofs.Refusing.{refused}
use Rattle.ct_laws.proofs.Silent.{silent}
use Rattle.ct_laws.proofs.schedules.law_schedule.Goals as goal

pub returns-clause-places : goal.returns-clause-places
returns-clause-places c = placed

pub returns-clause-silent : goal.returns-clause-silent
returns-clause-silent c = silent

pub returns-clause-refused : goal.returns-clause-refused
returns-clause-refused c = refused
