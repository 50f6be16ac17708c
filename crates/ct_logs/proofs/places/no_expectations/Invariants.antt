use Rattle.std.proofs.Common.{◌≡◌, length}
use Rattle.std.specs.Prelude.{All}
use Rattle.ct_merge.specs.Expected.{Expecting, nothing_expected}
use Rattle.ct_logs.proofs.places.no_expectations.Given as goal

abbrev pub invariant-loop-i : goal.invariant-loop-i
invariant-loop-i l = record {
  count : length l.expected.items ≡ l.i;
  nothing : All (λ (e : Expecting). e ≡ nothing_expected) l.expected.items;
}
