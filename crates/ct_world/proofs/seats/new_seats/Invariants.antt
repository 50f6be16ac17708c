use Rattle.ct_world.specs.Seats.{AreNewSeats}
use Rattle.ct_world.proofs.seats.new_seats.Given as goal

abbrev pub invariant-loop-i : goal.invariant-loop-i
invariant-loop-i l = AreNewSeats l.group l.i l.seats.items
