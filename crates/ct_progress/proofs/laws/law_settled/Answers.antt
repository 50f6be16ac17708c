use Rattle.ct_progress.proofs.Settled.{all_done, settled}
use Rattle.ct_progress.proofs.laws.law_settled.Goals as goal

pub returns-clause-so : goal.returns-clause-so
returns-clause-so c = all_done

pub returns-clause-is : goal.returns-clause-is
returns-clause-is c = settled
