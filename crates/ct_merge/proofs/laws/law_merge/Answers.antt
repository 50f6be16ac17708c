use Rattle.ct_merge.proofs.Beyond.{no_further, no_merge}
use Rattle.ct_merge.proofs.laws.law_merge.Goals as goal

pub returns-clause-further : goal.returns-clause-further
returns-clause-further c = no_further

pub returns-clause-none : goal.returns-clause-none
returns-clause-none c = no_merge
