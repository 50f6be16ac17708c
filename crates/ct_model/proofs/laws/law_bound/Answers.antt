use Rattle.ct_model.proofs.Consensus.Locking.{agreed-run}
use Rattle.ct_model.proofs.Delivery.Proposals.{decided-few, batches-few}
use Rattle.ct_model.proofs.laws.law_bound.Goals as goal

pub returns-clause-decisions : goal.returns-clause-decisions
returns-clause-decisions c = λ s steps g e. decided-few s steps g e (agreed-run s steps g e)

pub returns-clause-batches : goal.returns-clause-batches
returns-clause-batches c = λ s steps g e. batches-few s steps g e (agreed-run s steps g e)
