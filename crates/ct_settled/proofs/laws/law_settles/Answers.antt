use Rattle.ct_model.specs.Rehearsal.{state_of}
use Rattle.ct_settled.proofs.Rested.{at_rest}
use Rattle.ct_settled.proofs.laws.law_settles.Goals as goal

pub returns-clause-rest : goal.returns-clause-rest
returns-clause-rest c = at_rest

pub returns-clause-done : goal.returns-clause-done
returns-clause-done c =
    λ s t who set is. c.law_rest.ensures t.rehearsal.setting t.rehearsal.steps (state_of t.rehearsal) (at_rest s t who set is)
