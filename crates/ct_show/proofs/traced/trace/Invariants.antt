use Rattle.std.proofs.Common.{◌≡◌, ◌-◌, length, take}
use Rattle.ct_model.specs.Senders.{senders}
use Rattle.ct_world.specs.Setup.{record_of, setting_of}
use Rattle.ct_show.proofs.traced.trace.Given as goal

abbrev pub invariant-loop-replay : goal.invariant-loop-replay
invariant-loop-replay l = record {
  whole : l.replay.whole ≡ record_of l.fn.setup l.steps;
  senders : l.senders.items ≡ senders (setting_of l.fn.setup) (take l.replay.done l.steps);
}

abbrev pub decreases-loop-replay : goal.decreases-loop-replay
decreases-loop-replay l = length l.replay.whole.steps - l.replay.done
