-- How a message is shown.
use Rattle.std.specs.Prelude.{ℕ, List, [], ◌∷◌, codes}
use Rattle.std.specs.List.{concat}
use Rattle.std.specs.Fmt.{decimal}
use Rattle.ct_names.specs.Message.{Message}

-- the origin, a point, the number
abbrev pub message_text : Message → List ℕ
message_text m = concat (decimal m.origin ∷ codes "." ∷ decimal m.number ∷ [])
