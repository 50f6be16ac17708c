use Rattle.std.proofs.Common.{take}
use Rattle.ct_world.specs.Seats.{AreSameSeats}
use Rattle.ct_world.proofs.seats.copy_seats.Given as goal

abbrev pub invariant-loop-i : goal.invariant-loop-i
invariant-loop-i l = AreSameSeats (take l.i l.seats) l.copies.items
