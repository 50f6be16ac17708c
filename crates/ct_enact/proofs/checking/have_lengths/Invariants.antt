use Rattle.ct_order.specs.declared.reading.LogEnd.{LogEnd as End}
use Rattle.ct_enact.specs.Enacted.{HasLength}
use Rattle.ct_enact.proofs.Places.{Before}
use Rattle.ct_enact.proofs.checking.have_lengths.Given as goal

abbrev pub invariant-loop-i : goal.invariant-loop-i
invariant-loop-i l = Before (λ j (end : End). HasLength l.world.rehearsal j end.standing.most) l.ends l.i
