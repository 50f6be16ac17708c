use Rattle.std.proofs.Common.{◌≤◌, length}
use Rattle.ct_shrink.proofs.candidates.next_candidate.Given as goal

abbrev pub invariant-loop-step : goal.invariant-loop-step
invariant-loop-step l = length l.moves.items ≤ length l.initial.moves.items

abbrev pub decreases-loop-step : goal.decreases-loop-step
decreases-loop-step l = length l.moves.items
