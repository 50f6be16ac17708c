use Rattle.ct_merge.proofs.Begun.{same_ends, same_steps}
use Rattle.ct_merge.proofs.laws.law_same.Goals as goal

pub returns-clause-steps : goal.returns-clause-steps
returns-clause-steps c = same_steps

pub returns-clause-ends : goal.returns-clause-ends
returns-clause-ends c = same_ends
