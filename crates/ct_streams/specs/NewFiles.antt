-- What is known of files that are made.
use Rattle.std.specs.Prelude.{◌≡◌, ◌⊎◌, ℕ, List, [], ◌∷◌, ◌++◌, Option, Some, None, take, ⊤}

-- known files stay as they are, and a file of this name with these bytes comes after them
abbrev pub Makes : Option (List (List ℕ × List ℕ)) → Option (List (List ℕ × List ℕ)) → List ℕ → List ℕ → Type 0
Makes None new name bytes = ⊤
Makes (Some old) None name bytes = ⊥
Makes (Some old) (Some new) name bytes = new ≡ old ++ (name, bytes) ∷ []

-- no file was made, or one with some first bytes
abbrev pub MakesPart : Option (List (List ℕ × List ℕ)) → Option (List (List ℕ × List ℕ)) → List ℕ → List ℕ → Type 0
MakesPart old new name bytes = (new ≡ old) ⊎ ((n : ℕ) × Makes old new name (take n bytes))
