use Rattle.ct_merge.proofs.Local.{next_outcome, outcome_local}
use Rattle.ct_merge.proofs.laws.law_local.Goals as goal

pub returns-clause-outcome : goal.returns-clause-outcome
returns-clause-outcome c = outcome_local

pub returns-clause-state : goal.returns-clause-state
returns-clause-state c = next_outcome
