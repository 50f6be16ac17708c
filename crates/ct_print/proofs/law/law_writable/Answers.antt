use Rattle.ct_print.proofs.GoalsFit.{goal_readable}
use Rattle.ct_print.proofs.LinesFit.{readable}
use Rattle.ct_print.proofs.law.law_writable.Goals as goal

pub returns-clause-lines : goal.returns-clause-lines
returns-clause-lines c = readable

pub returns-clause-goals : goal.returns-clause-goals
returns-clause-goals c = goal_readable
