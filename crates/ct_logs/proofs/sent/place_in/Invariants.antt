use Rattle.std.proofs.Common.{◌-◌, length}
use Rattle.std.specs.Prelude.{⊤}
use Rattle.ct_logs.proofs.sent.place_in.Given as goal

abbrev pub invariant-loop-name : goal.invariant-loop-name
invariant-loop-name l = ⊤

abbrev pub decreases-loop-name : goal.decreases-loop-name
decreases-loop-name l = length l.replay.whole.steps - l.replay.done
