use Rattle.std.proofs.Common.{◌≡◌, take}
use Rattle.ct_network.specs.Lines.{serials_of}
use Rattle.ct_network.proofs.lines.copy_lines.Given as goal

abbrev pub invariant-loop-i : goal.invariant-loop-i
invariant-loop-i l = serials_of l.copies.items ≡ serials_of (take l.i l.lines)
