use Rattle.std.proofs.Common.{◌≡◌, length}
use Rattle.std.specs.Prelude.{All}
use Rattle.ct_merge.specs.Merging.{IsBare}
use Rattle.ct_logs.proofs.places.no_lines.Given as goal

abbrev pub invariant-loop-i : goal.invariant-loop-i
invariant-loop-i l = record { count : length l.logs.items ≡ l.i; bare : All IsBare l.logs.items }
