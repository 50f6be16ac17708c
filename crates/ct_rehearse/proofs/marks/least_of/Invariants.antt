use Rattle.std.proofs.Common.{◌≡◌, take}
use Rattle.ct_rehearse.specs.Pace.{least_of}
use Rattle.ct_rehearse.proofs.marks.least_of.Given as goal

abbrev pub invariant-loop-mark : goal.invariant-loop-mark
invariant-loop-mark l = l.least ≡ least_of (take l.mark-index l.marks)
