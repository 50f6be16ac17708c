use Rattle.std.proofs.Common.{◌≡◌, length, ◌==◌}
use Rattle.std.specs.List.{slice_split}
use Rattle.ct_grammar.specs.Names.{names_behind, names_within}
use Rattle.ct_grammar.proofs.reports.reading_names.names_within.Given as goal

-- the names of the rest are still to come
abbrev pub invariant-loop-part : goal.invariant-loop-part
invariant-loop-part l = names_behind l.names.items (slice_split (λ c. c == 44) l.rest) ≡ names_within l.word

abbrev pub decreases-loop-part : goal.decreases-loop-part
decreases-loop-part l = length l.rest
