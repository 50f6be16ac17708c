use Rattle.ct_progress.proofs.Stuck.{stuck, to_stuck}
use Rattle.ct_progress.proofs.laws.law_stuck.Goals as goal

pub returns-clause-so : goal.returns-clause-so
returns-clause-so c = stuck

pub returns-clause-is : goal.returns-clause-is
returns-clause-is c = to_stuck
