-- Sets of members: which members a set has, and the bits that stand for it.
use Rattle.std.specs.Prelude.{ℕ, ◌+◌, ◌*◌, ◌-◌, ◌/◌, ◌%◌, ◌^◌, Bool, ◌||◌, ◌==◌, if◌then◌else◌, List, [], ◌∷◌, filter, map}
use Rattle.std.specs.List.{list_any}
use Rattle.ct_names.specs.Group.{everyone}

-- the member is in the set
abbrev pub has_member : List ℕ → ℕ → Bool
has_member set p = list_any (λ q. q == p) set

-- the set and one more member
abbrev pub with_member : List ℕ → ℕ → List ℕ
with_member set one = filter (λ p. (p == one) || has_member set p) everyone

-- the bit of a member, the lowest for member 1
abbrev pub has_bit : ℕ → ℕ → Bool
has_bit bits p = bits / 2 ^ (p - 1) % 2 == 1

-- the members whose bits are set
abbrev pub members_of : ℕ → List ℕ
members_of bits = filter (has_bit bits) everyone

-- the number whose bits these are, the lowest first
abbrev pub number_of : List Bool → ℕ
number_of [] = 0
number_of (bit ∷ bits) = (if bit then 1 else 0) + 2 * number_of bits

-- the bits of a set of members
abbrev pub bits_of : List ℕ → ℕ
bits_of set = number_of (map (has_member set) everyone)
