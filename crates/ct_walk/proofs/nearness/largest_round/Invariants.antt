use Rattle.std.proofs.Common.{◌≡◌}
use Rattle.ct_choices.specs.Choices.{round_of}
use Rattle.ct_walk.specs.Nearness.{largest_of}
use Rattle.ct_walk.proofs.nearness.largest_round.Given as goal

abbrev pub invariant-loop-i : goal.invariant-loop-i
invariant-loop-i l = (l.largest ≡ largest_of (round_of l.world.rehearsal) l.i)
