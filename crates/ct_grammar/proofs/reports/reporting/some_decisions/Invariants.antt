use Rattle.std.proofs.Common.{◌≡◌, [], length}
use Rattle.ct_grammar.specs.Reports.{with_decisions}
use Rattle.ct_grammar.proofs.WordsCut.{read}
use Rattle.ct_grammar.proofs.reports.reporting.some_decisions.Given as goal

-- the words of the rest are still to come
abbrev pub invariant-loop-rest : goal.invariant-loop-rest
invariant-loop-rest l = with_decisions l.decisions.items l.last (read l.rest) ≡ with_decisions [] 0 (read l.fn.words)

abbrev pub decreases-loop-rest : goal.decreases-loop-rest
decreases-loop-rest l = length l.rest
