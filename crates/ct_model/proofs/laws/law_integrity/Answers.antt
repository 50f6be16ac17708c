use Rattle.ct_model.proofs.Relay.Integrity.{received_once, received_submitted}
use Rattle.ct_model.proofs.laws.law_integrity.Goals as goal

pub returns-clause-once : goal.returns-clause-once
returns-clause-once c = received_once

pub returns-clause-submitted : goal.returns-clause-submitted
returns-clause-submitted c = received_submitted
