use Rattle.std.proofs.Common.{◌≡◌, ◌+◌, ◌≤◌, ◌++◌, vec_len}
use Rattle.std.specs.Prelude.{vec_capacity}
use Rattle.ct_network.specs.Packed.{copies}
use Rattle.ct_network.proofs.envelopes.push_to_all.Given as goal

abbrev pub invariant-loop-i : goal.invariant-loop-i
invariant-loop-i l = record {
  packed : l.packed.items ≡ l.fn.packed.items ++ copies l.i l.wire;
  capacity : vec_capacity l.fn.packed ≤ vec_capacity l.packed;
  number : vec_len l.packed ≡ vec_len l.fn.packed + l.i;
}
