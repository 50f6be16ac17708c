use Rattle.std.specs.Prelude.{All}
use Rattle.ct_merge.specs.Standstills.{AreToldTo, IsStoppedAt}
use Rattle.ct_merge.proofs.furthest.waiting.Given as goal

abbrev pub invariant-loop-i : goal.invariant-loop-i
invariant-loop-i l = record {
  stopped : All (IsStoppedAt l.logs l.progress) l.lines.items;
  each : AreToldTo l.logs l.progress l.refused l.lines.items l.i;
}
