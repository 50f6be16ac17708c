use Rattle.ct_print.proofs.LinesRead.{read_back}
use Rattle.ct_print.proofs.TermsRead.{goal_read_back}
use Rattle.ct_print.proofs.law.law_read_back.Goals as goal

pub returns-clause-lines : goal.returns-clause-lines
returns-clause-lines c = read_back

pub returns-clause-goals : goal.returns-clause-goals
returns-clause-goals c = goal_read_back
