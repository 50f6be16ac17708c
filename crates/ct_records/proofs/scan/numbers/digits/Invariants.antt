use Rattle.std.proofs.Common.{◌≡◌, ◌<◌, decimal, take}
use Rattle.ct_records.proofs.scan.numbers.digits.Given as goal

abbrev pub invariant-loop-i : goal.invariant-loop-i
invariant-loop-i l = record { text : take l.i l.bytes ≡ decimal l.n; some : 0 < l.n }
