use Rattle.std.proofs.Common.{take}
use Rattle.ct_order.specs.Taking.{Takes}
use Rattle.ct_order.proofs.scan.Scan.take.Given as goal

abbrev pub invariant-loop-byte : goal.invariant-loop-byte
invariant-loop-byte l = Takes l.log l.fn.self l.fn.table (take l.byte-index l.bytes) l.self l.table
