use Rattle.std.proofs.Common.{◌≡◌, [], replicate}
use Rattle.ct_network.specs.Lines.{serials_of}
use Rattle.ct_network.proofs.lines.new_lines.Given as goal

abbrev pub invariant-loop : goal.invariant-loop
invariant-loop l = serials_of l.lines.items ≡ replicate l.counter []
