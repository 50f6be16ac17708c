use Rattle.ct_enact.specs.Enacted.{IsPlaced}
use Rattle.ct_enact.proofs.Places.{Before}
use Rattle.ct_enact.proofs.checking.have_origins.Given as goal

abbrev pub invariant-loop-k : goal.invariant-loop-k
invariant-loop-k l = Before (IsPlaced l.table) l.all l.k
