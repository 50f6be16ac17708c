use Rattle.ct_records.proofs.Texts.{taken_one}
use Rattle.ct_records.proofs.taking.take_one.Goals as goal

pub returns-then-branch-clause-taken : goal.returns-then-branch-clause-taken
returns-then-branch-clause-taken g c =
    taken_one _ _ c.in-Some.step c.args.later c.args.bytes.now c.in-Some.rest.now c.in-Some.ensures
    (c.in_ok-take.ensures.one c.if-branch.true)
