use Rattle.ct_rest.proofs.Stable.{decides}
use Rattle.ct_rest.proofs.laws.law_stable.Goals as goal

pub returns : goal.returns
returns c = decides
