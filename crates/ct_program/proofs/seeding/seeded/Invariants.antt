use Rattle.std.specs.Prelude.{◌≡◌, vec_len}
use Rattle.ct_program.specs.Seeding.{first_detectors}
use Rattle.ct_program.proofs.seeding.seeded.Given as goal

abbrev pub invariant-loop-i : goal.invariant-loop-i
invariant-loop-i l = record {
  exact : l.detectors.items ≡ first_detectors l.options l.i;
  count : vec_len l.detectors ≡ l.i;
}
