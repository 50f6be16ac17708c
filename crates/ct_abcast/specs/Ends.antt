-- Batches in one list, each told by where it ends.
use Rattle.std.specs.Prelude.{◌≡◌, ℕ, ◌≤◌, List, [], ◌∷◌, slice_range}
use Rattle.ct_names.specs.Message.{Message}

-- the parts of the list that end at these places, the first from the start on
abbrev pub parts : ℕ → List ℕ → List Message → List (List Message)
parts start [] list = []
parts start (end ∷ ends) list = slice_range list start end ∷ parts end ends list

-- the places rise from the start to the last
abbrev pub AreEnds : ℕ → List ℕ → ℕ → Type 0
AreEnds start [] last = start ≡ last
AreEnds start (end ∷ ends) last = (start ≤ end) × AreEnds end ends last
