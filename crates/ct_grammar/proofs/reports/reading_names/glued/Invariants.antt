use Rattle.std.proofs.Common.{◌≡◌, length}
use Rattle.std.specs.Prelude.{string_bytes}
use Rattle.ct_grammar.specs.Names.{glued}
use Rattle.ct_grammar.proofs.WordsCut.{read}
use Rattle.ct_grammar.proofs.reports.reading_names.glued.Given as goal

-- what goes on with the word is still to come
abbrev pub invariant-loop-rest : goal.invariant-loop-rest
invariant-loop-rest l = glued (string_bytes l.whole) (read l.rest) ≡ glued l.fn.word (read l.fn.words)

abbrev pub decreases-loop-rest : goal.decreases-loop-rest
decreases-loop-rest l = length l.rest
