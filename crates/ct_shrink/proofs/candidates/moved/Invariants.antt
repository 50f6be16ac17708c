use Rattle.std.specs.Prelude.{All}
use Rattle.ct_shrink.specs.Naming.{IsByContent}
use Rattle.ct_shrink.proofs.candidates.moved.Given as goal

abbrev pub invariant-loop-line : goal.invariant-loop-line
invariant-loop-line l = All IsByContent l.moved.items
