-- What a world is opened with, and what is answered.
use Rattle.std.specs.Prelude.{◌≡◌, ◌⊎◌, ◌<◌, ℕ, List, [], ◌∷◌}
use Rattle.ct_names.specs.declared.limit.TheConstants.{MAX_BOUND, MAX_CELLS, MAX_MEMBERS}

-- there is no such group, or there are too many cells, or the bound is not one
abbrev pub IsBadSetup : ℕ → ℕ → ℕ → Type 0
IsBadSetup members cells bound = (members < 1) ⊎ (MAX_MEMBERS < members) ⊎ (MAX_CELLS < cells) ⊎ (bound < 1) ⊎ (MAX_BOUND < bound)

-- one of these numbers
abbrev pub IsNumber : ℕ → List ℕ → Type 0
IsNumber n [] = ⊥
IsNumber n (x ∷ xs) = (n ≡ x) ⊎ IsNumber n xs
