use Rattle.ct_records.proofs.Common.{take, IsWhite}
use Rattle.ct_records.proofs.scan.spacing.skip_white.Given as goal

abbrev pub invariant-loop-i : goal.invariant-loop-i
invariant-loop-i l = IsWhite (take l.i l.bytes)
