use Rattle.std.proofs.Common.{◌≡◌}
use Rattle.ct_settled.proofs.Crashed.{crashed_to}
use Rattle.ct_settled.proofs.completing.crashed.Given as goal

abbrev pub invariant-loop-i : goal.invariant-loop-i
invariant-loop-i l = l.set ≡ crashed_to l.world.rehearsal l.i
