-- How numbers are spread.
use Rattle.std.specs.Prelude.{◌≡◌, ℕ, ◌+◌, ◌-◌, ◌*◌, ◌/◌, ◌%◌, ◌<◌, min, List, [], length, Option, Some, None, slice_index}
use Rattle.std.specs.List.Sorted.{IsNonDecreasing, IsPermutation}
use Rattle.ct_find.specs.declared.spread.Spread.{Spread}

-- how many of n values the first so many quarters have, which are rounded up
abbrev pub values_in : ℕ → ℕ → ℕ
values_in n quarters = n * quarters / 4 + min 1 (n * quarters % 4)

-- the last of them, where the values are in order; of none of them the first value
abbrev pub value_at : List ℕ → ℕ → ℕ
value_at ordered quarters = slice_index ordered (values_in (length ordered) quarters - 1)

abbrev pub spread_at : List ℕ → Spread
spread_at ordered = record {
  least = value_at ordered 0;
  lower = value_at ordered 1;
  median = value_at ordered 2;
  upper = value_at ordered 3;
  greatest = value_at ordered 4;
}

-- these are the same values, in order
pub record IsInOrder (values ordered : List ℕ) : Type 0 where
  pub same : IsPermutation values ordered
  pub rises : IsNonDecreasing ordered

-- the spread of the values, which are some; there is none of no values
abbrev pub IsSpreadOf : List ℕ → Option Spread → Type 0
IsSpreadOf values None = values ≡ []
IsSpreadOf values (Some spread) = (0 < length values) × ((ordered : List ℕ) × IsInOrder values ordered × (spread ≡ spread_at ordered))
