use Rattle.std.proofs.Common.{◌≡◌, length, ◌==◌}
use Rattle.std.specs.List.{slice_split}
use Rattle.ct_grammar.specs.Sides.{with_parts}
use Rattle.ct_grammar.proofs.cutting.with_set.Given as goal

-- the members of the rest are still to come
abbrev pub invariant-loop-part : goal.invariant-loop-part
invariant-loop-part l =
    with_parts l.side l.sides (slice_split (λ c. c == 44) l.rest) ≡ with_parts l.side l.fn.sides (slice_split (λ c. c == 44) l.fn.set)

abbrev pub decreases-loop-part : goal.decreases-loop-part
decreases-loop-part l = length l.rest
