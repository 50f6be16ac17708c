use Rattle.std.proofs.Common.{◌≡◌}
use Rattle.ct_walk.specs.Nearness.{largest_of, last_of}
use Rattle.ct_walk.proofs.nearness.largest_decided.Given as goal

abbrev pub invariant-loop-i : goal.invariant-loop-i
invariant-loop-i l = (l.largest ≡ largest_of (last_of l.world.rehearsal) l.i)
