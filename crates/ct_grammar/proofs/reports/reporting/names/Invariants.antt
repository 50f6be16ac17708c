use Rattle.std.proofs.Common.{◌≡◌, [], length}
use Rattle.ct_grammar.specs.Reports.{with_names}
use Rattle.ct_grammar.proofs.WordsCut.{read}
use Rattle.ct_grammar.proofs.reports.reporting.names.Given as goal

-- the words of the rest are still to come
abbrev pub invariant-loop-rest : goal.invariant-loop-rest
invariant-loop-rest l = with_names l.names.items (read l.rest) ≡ with_names [] (read l.fn.words)

abbrev pub decreases-loop-rest : goal.decreases-loop-rest
decreases-loop-rest l = length l.rest
