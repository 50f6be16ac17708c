use Rattle.std.proofs.Common.{◌≡◌, length}
use Rattle.ct_table.specs.Table.{zeros}
use Rattle.ct_grammar.specs.Reports.{with_registers}
use Rattle.ct_grammar.proofs.WordsCut.{read}
use Rattle.ct_grammar.proofs.reports.reporting.registers.Given as goal

-- the words of the rest are still to come
abbrev pub invariant-loop-rest : goal.invariant-loop-rest
invariant-loop-rest l = with_registers l.table (read l.rest) ≡ with_registers zeros (read l.fn.words)

abbrev pub decreases-loop-rest : goal.decreases-loop-rest
decreases-loop-rest l = length l.rest
