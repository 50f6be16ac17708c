use Rattle.ct_model.proofs.Numbers.Counts.{ballots-none, ballots-push}
use Rattle.ct_model.proofs.laws.law_count.Goals as goal

pub returns-clause-none : goal.returns-clause-none
returns-clause-none g c = ballots-none

pub returns-clause-more : goal.returns-clause-more
returns-clause-more g c = ballots-push
