use Rattle.ct_rest.proofs.Done.{all_done}
use Rattle.ct_rest.proofs.laws.law_rest.Goals as goal

pub returns : goal.returns
returns c = all_done
