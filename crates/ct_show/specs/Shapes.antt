-- How numbers in columns are shown.
use Rattle.std.specs.Prelude.{ℕ, List, [], ◌∷◌, codes, decimal, nat_lt, if◌then◌else◌}
use Rattle.std.specs.List.{concat}

-- the spaces before a number, in a column of four places
abbrev pub spaces_before : ℕ → List ℕ
spaces_before n = if nat_lt n 10 then codes "   " else (if nat_lt n 100 then codes "  " else (if nat_lt n 1000 then codes " " else []))

-- a number at the right of such a column
unfoldable pub right_text : ℕ → List ℕ
right_text n = concat (spaces_before n ∷ decimal n ∷ [])
