use Rattle.ct_model.proofs.Consensus.Locking.{locked}
use Rattle.ct_model.proofs.laws.law_locked.Goals as goal

pub returns : goal.returns
returns c = locked
