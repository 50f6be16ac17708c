-- Cuts, as lines say them.
use Rattle.std.specs.Prelude.{ℕ, Bool, ◌==◌, ◌&&◌, not, List, [], ◌∷◌, filter, map, codes}
use Rattle.std.specs.List.{concat}
use Rattle.ct_names.specs.Group.{everyone}
use Rattle.ct_grammar.specs.Words.{Word}
use Rattle.ct_grammar.specs.Sides.{side_of}
use Rattle.ct_print.specs.Members.{set_text}

-- the side has a number that is its own: that of a member on it
abbrev pub is_own : List ℕ → ℕ → Bool
is_own sides p = side_of sides p == p

-- the member is one more on the side of this number
abbrev pub is_other : List ℕ → ℕ → ℕ → Bool
is_other sides side p = not (p == side) && (side_of sides p == side)

-- the members on the side: the one that it has its number of, and the others, rising
unfoldable pub side_text : List ℕ → ℕ → Word
side_text sides side = set_text (side ∷ filter (is_other sides side) everyone)

-- the texts, with bars between them
abbrev pub barred : List Word → List ℕ
barred [] = []
barred (text ∷ []) = text
barred (text ∷ next ∷ texts) = concat (text ∷ codes " | " ∷ barred (next ∷ texts) ∷ [])

-- the sides that have members of their own, by rising number
unfoldable pub sides_text : List ℕ → List ℕ
sides_text sides = barred (map (side_text sides) (filter (is_own sides) everyone))
