use Rattle.std.proofs.Common.{◌≡◌, length}
use Rattle.ct_logs.specs.Sets.{AreFirstLines}
use Rattle.ct_logs.proofs.presumed.cut_as_read.Given as goal

abbrev pub invariant-loop-place : goal.invariant-loop-place
invariant-loop-place l = record { size : length l.logs ≡ length l.fn.logs; first : AreFirstLines l.logs l.fn.logs }
