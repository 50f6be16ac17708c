-- Lists in texts.
use Rattle.std.specs.Prelude.{ℕ, zero, suc, ◌==◌, List, [], ◌∷◌, ◌++◌, codes, decimal, map, Option, Some, None, unwrap_or}
use Rattle.std.specs.Prelude.{slice_index, if◌then◌else◌}
use Rattle.std.specs.List.{join_with_byte, concat}
use Rattle.ct_names.specs.MemberSet.{has_member}
use Rattle.ct_names.specs.Message.{Message}
use Rattle.ct_names.specs.MessageText.{message_text}
use Rattle.ct_names.specs.Value.{Value}
use Rattle.ct_model.specs.AtValue.{Wire}
use Rattle.ct_model.specs.Received.{decided}
use Rattle.ct_world.specs.Decided.{last_decided}

-- the texts, with this byte between each two; a dash where there are none
abbrev pub list_text : ℕ → List (List ℕ) → List ℕ
list_text byte [] = codes "-"
list_text byte (text ∷ texts) = join_with_byte byte (text ∷ texts)

-- the messages, with this byte between each two
abbrev pub messages_text : ℕ → List Message → List ℕ
messages_text byte messages = list_text byte (map message_text messages)

-- an instance and what was decided for it, with commas
unfoldable pub decision_text : ℕ → Value → List ℕ
decision_text k value = concat (decimal k ∷ codes ":" ∷ messages_text 44 value ∷ [])

-- the same where something was decided
abbrev pub decision_texts : ℕ → Option Value → List (List ℕ)
decision_texts k None = []
decision_texts k (Some value) = decision_text k value ∷ []

-- the decisions for the first instances, from 1 on
abbrev pub first_decisions : List Wire → ℕ → List (List ℕ)
first_decisions got zero = []
first_decisions got (suc k) = first_decisions got k ++ decision_texts (suc k) (decided got (suc k))

-- all decisions that were got, for instances begun or not
unfoldable pub decisions_text : List Wire → List ℕ
decisions_text got = list_text 32 (first_decisions got (unwrap_or (last_decided got) 0))

-- a register and its value
unfoldable pub register_text : ℕ → ℕ → List ℕ
register_text register value = concat (decimal register ∷ codes "=" ∷ decimal value ∷ [])

-- the value, where it is not 0
abbrev pub nonzero : ℕ → Option ℕ
nonzero value = if value == 0 then None else Some value

-- a register, where it has such a value
abbrev pub register_texts : ℕ → Option ℕ → List (List ℕ)
register_texts register None = []
register_texts register (Some value) = register_text register value ∷ []

-- those of the first registers of a table
abbrev pub first_registers : List ℕ → ℕ → List (List ℕ)
first_registers values zero = []
first_registers values (suc k) = first_registers values k ++ register_texts k (nonzero (slice_index values k))

-- all 16 of them
unfoldable pub table_text : List ℕ → List ℕ
table_text values = list_text 32 (first_registers values 16)

-- the first members that are in the set
abbrev pub first_in : List ℕ → ℕ → List (List ℕ)
first_in set zero = []
first_in set (suc k) = first_in set k ++ (if has_member set (suc k) then decimal (suc k) ∷ [] else [])
