-- Lists of which one begins the other.
use Rattle.std.specs.Prelude.{◌≡◌, List, ◌++◌, ◌⊎◌}

-- xs begins ys
abbrev pub IsPrefix : {A : Type 0} → List A → List A → Type 0
IsPrefix {A} xs ys = (rest : List A) × (xs ++ rest ≡ ys)

-- one of the two begins the other
abbrev pub OneBegins : {A : Type 0} → List A → List A → Type 0
OneBegins xs ys = IsPrefix xs ys ⊎ IsPrefix ys xs
