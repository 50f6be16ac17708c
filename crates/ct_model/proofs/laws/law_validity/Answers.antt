use Rattle.ct_model.proofs.Consensus.Locking.{agreed-run}
use Rattle.ct_model.proofs.Delivery.Prefixes.{delivered-submitted}
use Rattle.ct_model.proofs.laws.law_validity.Goals as goal

pub returns-clause-proposed : goal.returns-clause-proposed
returns-clause-proposed c = λ s steps g e. (agreed-run s steps g e).proposed

pub returns-clause-submitted : goal.returns-clause-submitted
returns-clause-submitted c = λ s steps g e. delivered-submitted s steps g e (agreed-run s steps g e)
