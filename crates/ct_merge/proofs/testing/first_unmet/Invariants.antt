use Rattle.std.proofs.Common.{◌≡◌, take}
use Rattle.ct_world.specs.Setup.{record_of}
use Rattle.ct_grammar.specs.Sides.{whole}
use Rattle.ct_merge.specs.Testing.{AreTested}
use Rattle.ct_merge.proofs.testing.first_unmet.Given as goal

abbrev pub invariant-loop-i : goal.invariant-loop-i
invariant-loop-i l = record {
  stage : l.walk.stage ≡ record { rehearsal = record_of l.fn.setup (take l.i l.steps); sides = whole };
  tested : AreTested (record_of l.fn.setup l.steps) l.expected l.walk;
}
