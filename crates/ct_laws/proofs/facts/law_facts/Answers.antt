use Rattle.ct_laws.proofs.MemberFacts.{tells_member}
use Rattle.ct_laws.proofs.Reasons.{tells_line, tells_step}
use Rattle.ct_laws.proofs.facts.law_facts.Goals as goal

pub returns : goal.returns
returns c = record { member = tells_member; steps = tells_step; lines = tells_line }
