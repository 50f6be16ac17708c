use Rattle.std.proofs.Common.{◌-◌, length}
use Rattle.std.specs.Prelude.{⊤}
use Rattle.ct_logs.proofs.showing.seen_in.Given as goal

abbrev pub invariant-loop-replay : goal.invariant-loop-replay
invariant-loop-replay l = ⊤

abbrev pub decreases-loop-replay : goal.decreases-loop-replay
decreases-loop-replay l = length l.replay.whole.steps - l.replay.done
