use Rattle.std.proofs.Common.{◌-◌, length}
use Rattle.ct_abcast.specs.Batches.{joined}
use Rattle.ct_abcast.specs.Ordered.{IsFed}
use Rattle.ct_abcast.proofs.ordered.Ordered.feed.Given as goal

abbrev pub invariant-loop-self : goal.invariant-loop-self
invariant-loop-self l =
    IsFed (record { messages = l.self-inside.messages.keys; fed = l.self-inside.fed }) l.received (joined l.delivered.batches)

abbrev pub decreases-loop-self : goal.decreases-loop-self
decreases-loop-self l = length l.received - l.self-inside.fed
