-- How sets of messages, estimates and phases are shown.
use Rattle.std.specs.Prelude.{ℕ, ◌-◌, List, [], ◌∷◌, length, take, codes, decimal, map, nat_le, Option, Some, None, if◌then◌else◌}
use Rattle.std.specs.List.{join_with_byte, concat}
use Rattle.ct_names.specs.Message.{Message}
use Rattle.ct_names.specs.MessageText.{message_text}
use Rattle.ct_names.specs.Value.{Value}
use Rattle.ct_model.specs.declared.phase.Phase.{Phase}
use Rattle.ct_model.specs.declared.phase.Phase.TheVariants.{Rest, Gather, Wait, Tally}
use Rattle.ct_text.specs.declared.shapes.TheConstants.{MOST_SHOWN}

-- the names of messages, in order
unfoldable pub names_text : List Message → List ℕ
names_text messages = join_with_byte 44 (map message_text messages)

-- the same; of many messages the first ones, and how many more there are
unfoldable pub shortened : List Message → List ℕ
shortened messages =
    if nat_le (length messages) MOST_SHOWN then names_text messages
    else concat (names_text (take MOST_SHOWN messages) ∷ codes " and " ∷ decimal (length messages - MOST_SHOWN) ∷ codes " more" ∷ [])

-- the messages of a value
unfoldable pub set_text : List Message → List ℕ
set_text messages = concat (codes "{" ∷ shortened messages ∷ codes "}" ∷ [])

-- an estimate and its ts; nothing where there is none
unfoldable pub estimate_text : Option (Value × ℕ) → List ℕ
estimate_text None = []
estimate_text (Some e) = concat (set_text e.0 ∷ codes " ts " ∷ decimal e.1 ∷ [])

-- the value of an estimate alone
unfoldable pub value_text : Option (Value × ℕ) → List ℕ
value_text None = []
value_text (Some e) = set_text e.0

abbrev pub phase_text : Phase → List ℕ
phase_text Rest = codes "Rest"
phase_text Gather = codes "Gather"
phase_text Wait = codes "Wait"
phase_text Tally = codes "Tally"
