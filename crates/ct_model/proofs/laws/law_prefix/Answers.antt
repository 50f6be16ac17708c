use Rattle.ct_model.proofs.Consensus.Locking.{agreed-run}
use Rattle.ct_model.proofs.Delivery.Prefixes.{batches-prefix, delivered-prefix, delivered-once}
use Rattle.ct_model.proofs.laws.law_prefix.Goals as goal

pub returns-clause-delivered : goal.returns-clause-delivered
returns-clause-delivered c = λ s steps g e. delivered-prefix s steps g e (agreed-run s steps g e)

pub returns-clause-once : goal.returns-clause-once
returns-clause-once c = λ s steps g e p is. delivered-once s steps g e p

pub returns-clause-batches : goal.returns-clause-batches
returns-clause-batches c = λ s steps g e. batches-prefix s steps g e (agreed-run s steps g e)
