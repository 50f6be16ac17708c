use Rattle.ct_walk.proofs.Found.{other_kind}
use Rattle.ct_walk.proofs.goals.sight_by.Goals as goal

pub returns-in_default : goal.returns-in_default
returns-in_default c = other_kind c.args.kind.now c.args.number.now c.in_default.not-round c.in_default.not-decided
