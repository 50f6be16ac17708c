use Rattle.std.proofs.Common.{◌∙◌}
use Rattle.ct_world.proofs.Reading.Shown.{of_this, received_is}
use Rattle.ct_world.proofs.world.World.received.Goals as goal

pub returns : goal.returns
returns c = of_this c.in_ok-seat.ensures.seat (c.received.ensures ∙ received_is c.in_ok-seat.ensures.seat)
