use Rattle.ct_merge.proofs.Circles.{refused_none}
use Rattle.ct_merge.proofs.Held.{waiting_none}
use Rattle.ct_merge.proofs.laws.law_stopped.Goals as goal

pub returns-clause-refused : goal.returns-clause-refused
returns-clause-refused c = refused_none

pub returns-clause-wait : goal.returns-clause-wait
returns-clause-wait c = waiting_none
