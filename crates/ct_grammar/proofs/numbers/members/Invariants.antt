use Rattle.std.proofs.Common.{◌≡◌, length, ◌==◌}
use Rattle.std.specs.List.{slice_split}
use Rattle.ct_grammar.specs.Numbers.{members_of, with_members}
use Rattle.ct_grammar.proofs.numbers.members.Given as goal

-- the members of the rest are still to come
abbrev pub invariant-loop-part : goal.invariant-loop-part
invariant-loop-part l = with_members l.set (slice_split (λ c. c == 44) l.rest) ≡ members_of l.word

abbrev pub decreases-loop-part : goal.decreases-loop-part
decreases-loop-part l = length l.rest
