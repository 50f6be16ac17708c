use Rattle.std.specs.Prelude.{string_bytes}
use Rattle.ct_text.specs.Lists.{first_registers}
use Rattle.ct_text.proofs.Pieces.{HasWritten}
use Rattle.ct_text.proofs.lists.push_table.Given as goal

abbrev pub invariant-loop-register : goal.invariant-loop-register
invariant-loop-register l = HasWritten 32 (first_registers l.table l.register) (string_bytes l.fn.text) (string_bytes l.text) l.later
