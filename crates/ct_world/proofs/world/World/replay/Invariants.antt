use Rattle.std.proofs.Common.{◌≡◌, ◌-◌, length}
use Rattle.ct_world.proofs.world.World.replay.Given as goal

abbrev pub invariant-loop-replay : goal.invariant-loop-replay
invariant-loop-replay l =
    l.replay.whole ≡ record { setting = record { members = l.fn.group; bound = l.fn.bound }; cells = l.fn.cells; steps = l.steps }

abbrev pub decreases-loop-replay : goal.decreases-loop-replay
decreases-loop-replay l = length l.replay.whole.steps - l.replay.done
