use Rattle.ct_world.proofs.Steps.Doing.{safe_in}
use Rattle.ct_world.proofs.world.World.record.Goals as goal

pub returns-clause-safe : goal.returns-clause-safe
returns-clause-safe c =
    rw (← c.self.view_is) (safe_in c.self.inside.kept c.self.invariant.sound)

pub returns-clause-within : goal.returns-clause-within
returns-clause-within c = rw (c.deref.ensures.value, ← c.self.view_is) c.self.invariant.sound.lawful.within

pub returns-clause-lawful : goal.returns-clause-lawful
returns-clause-lawful c = rw (← c.self.view_is) c.self.invariant.sound.lawful
