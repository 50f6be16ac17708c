use Rattle.ct_laws.proofs.Seeds.{least}
use Rattle.ct_laws.proofs.walks.law_walk.Goals as goal

pub returns-clause-least : goal.returns-clause-least
returns-clause-least c = least
