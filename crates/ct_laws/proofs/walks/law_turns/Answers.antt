use Rattle.ct_walk.proofs.Turning.{turned_try}
use Rattle.ct_laws.proofs.Asking.{asks_walk}
use Rattle.ct_laws.proofs.walks.law_turns.Goals as goal

pub returns-clause-step : goal.returns-clause-step
returns-clause-step c = turned_try

pub returns-clause-walk : goal.returns-clause-walk
returns-clause-walk c = asks_walk
