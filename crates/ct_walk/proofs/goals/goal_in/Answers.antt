use Rattle.std.proofs.Common.{◌≡◌, Ok, IfOk, IfErr, subst}
use Rattle.clap.specs.Words.{found_of}
use Rattle.ct_walk.specs.Line.{IsCallFault}
use Rattle.ct_walk.proofs.Found.{found_goal}
use Rattle.ct_walk.proofs.goals.goal_in.Goals as goal

pub returns-clause-ok : goal.returns-clause-ok
returns-clause-ok c =
    subst (λ r. IfOk c.goal_or_none.result (λ goal. r ≡ Ok goal))
    (found_goal (found_of c.args.found.now) c.args.n c.args.name.now _ c.get_strs.ensures) c.goal_or_none.ensures.ok

pub returns-clause-err : goal.returns-clause-err
returns-clause-err c =
    subst (λ r. IfErr c.goal_or_none.result (IsCallFault r))
    (found_goal (found_of c.args.found.now) c.args.n c.args.name.now _ c.get_strs.ensures) c.goal_or_none.ensures.err
