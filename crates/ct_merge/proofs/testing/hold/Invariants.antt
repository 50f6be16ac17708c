use Rattle.std.proofs.Common.{◌-◌, ◌≤◌, length}
use Rattle.ct_merge.specs.Testing.{AreMet}
use Rattle.ct_merge.proofs.testing.hold.Given as goal

abbrev pub invariant-loop-expectation : goal.invariant-loop-expectation
invariant-loop-expectation l = record { met : AreMet l.list l.fn.next l.next l.place l.stage; more : l.fn.next ≤ l.next }

abbrev pub decreases-loop-expectation : goal.decreases-loop-expectation
decreases-loop-expectation l = length l.list - l.next
