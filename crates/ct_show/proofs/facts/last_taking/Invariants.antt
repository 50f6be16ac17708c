use Rattle.std.proofs.Common.{◌≡◌}
use Rattle.ct_show.specs.Facts.{last_taking}
use Rattle.ct_show.proofs.facts.last_taking.Given as goal

abbrev pub invariant-loop-i : goal.invariant-loop-i
invariant-loop-i l = l.last ≡ last_taking l.steps l.serial l.i
