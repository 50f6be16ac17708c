use Rattle.ct_settled.proofs.Unhindered.{all_done, at_rest, unhindered}
use Rattle.ct_settled.proofs.laws.law_hindrance.Goals as goal

pub returns-clause-rest : goal.returns-clause-rest
returns-clause-rest c = at_rest

pub returns-clause-done : goal.returns-clause-done
returns-clause-done c = all_done c.law_settled.ensures.so c.law_rest.ensures

pub returns-clause-only : goal.returns-clause-only
returns-clause-only c = unhindered c.law_settled.ensures.is
