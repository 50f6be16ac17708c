-- The sides of a group that is cut: the sides of the members 1 to 16, in this order.
use Rattle.std.specs.Prelude.{ℕ, ◌-◌, Bool, ◌==◌, if◌then◌else◌, List, [], ◌∷◌, Option, Some, None, replicate, get_or, slice_set}
use Rattle.std.specs.List.{slice_split}
use Rattle.ct_names.specs.Group.{is_member}
use Rattle.ct_names.specs.declared.limit.TheConstants.{MAX_MEMBERS}
use Rattle.ct_grammar.specs.Words.{Word}
use Rattle.ct_grammar.specs.Numbers.{◌>>=◌, number_in, parted}

-- no cut: all members are on side 0
abbrev pub whole : List ℕ
whole = replicate MAX_MEMBERS 0

-- the member's side; 0 also for a member that no group has
abbrev pub side_of : List ℕ → ℕ → ℕ
side_of sides p = if is_member MAX_MEMBERS p then get_or sides (p - 1) 0 else 0

-- the two are on the same side
abbrev pub together : List ℕ → ℕ → ℕ → Bool
together sides p q = side_of sides p == side_of sides q

-- the sides, where also member p is on this one; None where it is on a side already
abbrev pub with_member_on : ℕ → List ℕ → ℕ → Option (List ℕ)
with_member_on side sides p = if side_of sides p == 0 then Some (slice_set sides (p - 1) side) else None

-- the sides, where also the members that the parts name are on this one; None where one of them is on a side already
abbrev pub with_parts : ℕ → List ℕ → List Word → Option (List ℕ)
with_parts side sides [] = Some sides
with_parts side sides (part ∷ parts) = do
  p ← number_in 1 MAX_MEMBERS part
  named ← with_member_on side sides p
  with_parts side named parts

-- the part before the first comma
abbrev pub part_before : Word → Option (Word × Word) → Word
part_before word None = word
part_before word (Some parts) = parts.0

-- the sides, where also the members between the commas are on one; it has the number of the first of them
unfoldable pub with_set : List ℕ → Word → Option (List ℕ)
with_set sides set = do
  side ← number_in 1 MAX_MEMBERS (part_before set (parted 44 set))
  with_parts side sides (slice_split (λ c. c == 44) set)
