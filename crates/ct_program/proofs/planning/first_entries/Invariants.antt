use Rattle.std.specs.Prelude.{◌≡◌, vec_len}
use Rattle.ct_program.specs.Planning.{entry, first_entries}
use Rattle.ct_program.proofs.planning.first_entries.Given as goal

abbrev pub invariant-loop-i : goal.invariant-loop-i
invariant-loop-i l = record {
  exact : l.script.items ≡ first_entries (entry l.kind l.members) l.i;
  count : vec_len l.script ≡ l.i;
}
