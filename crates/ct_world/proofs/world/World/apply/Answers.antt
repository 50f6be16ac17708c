use Rattle.ct_world.proofs.Steps.Doing.{safe_in}
use Rattle.ct_world.proofs.world.World.apply.Goals as goal

pub returns-clause-safe : goal.returns-clause-safe
returns-clause-safe c = safe_in c.take_at_once.new.self c.take_at_once.ensures.sound
