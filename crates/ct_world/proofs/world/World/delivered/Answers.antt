use Rattle.std.proofs.Common.{◌∙◌}
use Rattle.ct_world.proofs.Reading.Shown.{of_this, delivered_is}
use Rattle.ct_world.proofs.world.World.delivered.Goals as goal

pub returns : goal.returns
returns c = of_this c.in_ok-seat.ensures.seat (c.delivered.ensures ∙ delivered_is c.in_ok-seat.ensures.seat)
