use Rattle.ct_settled.proofs.Marking.{AreMarkedBy}
use Rattle.std.proofs.Common.{take}
use Rattle.ct_settled.proofs.losing.received.Given as goal

abbrev pub invariant-loop-step : goal.invariant-loop-step
invariant-loop-step l = AreMarkedBy l.world.rehearsal (take l.step-index l.step-items) l.received.items
