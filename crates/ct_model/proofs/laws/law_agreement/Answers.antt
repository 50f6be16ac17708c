use Rattle.ct_model.proofs.Consensus.Locking.{agreed-run}
use Rattle.ct_model.proofs.laws.law_agreement.Goals as goal

pub returns : goal.returns
returns c = λ s steps g e. (agreed-run s steps g e).agreed
