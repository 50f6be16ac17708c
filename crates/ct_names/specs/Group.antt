-- A group of the members 1 to n. A set of members is the list of them, rising.
use Rattle.std.specs.Prelude.{ℕ, zero, suc, ◌+◌, ◌/◌, ◌%◌, ◌≤◌, Bool, ◌&&◌, nat_le, List, [], ◌∷◌, length}
use Rattle.ct_names.specs.declared.limit.TheConstants.{MAX_MEMBERS}
use Rattle.ct_names.specs.Membership.{IsIn, IsWithoutRepeats}

-- this many numbers, from the first on
abbrev pub counting : ℕ → ℕ → List ℕ
counting first zero = []
counting first (suc more) = first ∷ counting (first + 1) more

-- the members of the group, in rising order
unfoldable pub members : ℕ → List ℕ
members n = counting 1 n

-- the numbers that a member may have
abbrev pub everyone : List ℕ
everyone = members MAX_MEMBERS

-- p is one of the group's members
abbrev pub is_member : ℕ → ℕ → Bool
is_member n p = nat_le 1 p && nat_le p n

-- how many members make a majority
abbrev pub majority : ℕ → ℕ
majority n = n / 2 + 1

-- the member that coordinates a round
abbrev pub coordinator : ℕ → ℕ → ℕ
coordinator n round = round % n + 1

-- the same, as a fact
abbrev pub IsMember : ℕ → ℕ → Type 0
IsMember n p = (1 ≤ p) × (p ≤ n)

-- the set has more than half of the group
abbrev pub is_majority : ℕ → List ℕ → Bool
is_majority n set = nat_le (majority n) (length set)

-- the same, as a fact
abbrev pub IsMajority : ℕ → List ℕ → Type 0
IsMajority n set = majority n ≤ length set

-- members of the group, each once
pub record IsSetOf (n : ℕ) (set : List ℕ) : Type 0 where
  pub once : IsWithoutRepeats set
  pub within : (p : ℕ) → IsIn p set → IsMember n p

-- a member that is in both sets
pub record IsShared (n : ℕ) (one other : List ℕ) : Type 0 where
  pub member : ℕ
  pub in_one : IsIn member one
  pub in_other : IsIn member other
