use Rattle.ct_records.proofs.Common.{◌≡◌, ◌+◌, drop, map, view, steps_of}
use Rattle.ct_records.proofs.Loops.{with_front}
use Rattle.ct_records.proofs.reading.steps.Given as goal

abbrev pub invariant-loop-i : goal.invariant-loop-i
invariant-loop-i l = with_front l.steps.items (steps_of l.version (l.i + 1) (drop l.i (map view l.values))) ≡ steps_of l.version 1
    (map view l.values)
