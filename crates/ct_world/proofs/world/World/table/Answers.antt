use Rattle.ct_world.proofs.Reading.Shown.{of_this, table_is}
use Rattle.ct_world.proofs.world.World.table.Goals as goal

pub returns : goal.returns
returns c = of_this c.in_ok-seat.ensures.seat (table_is c.in_ok-seat.ensures.seat)
