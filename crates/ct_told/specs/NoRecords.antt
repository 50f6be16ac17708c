-- What is told of an input that is no record.
use Rattle.std.specs.Prelude.{◌≡◌, ℕ, ◌==◌, Bool, false, ◌&&◌, ◌||◌, nat_eq, nat_le, List, [], ◌∷◌, codes, decimal}
use Rattle.std.specs.Prelude.{Option, Some, None, ⊤, if◌then◌else◌}
use Rattle.std.specs.List.{concat, starts_with}
use Rattle.std.specs.Result.{IsErrAnd}
use Rattle.ct_streams.specs.Streams.{read_part}
use Rattle.ct_records.specs.declared.program_fault.ProgramFault.TheVariants.{Reader, Memory}
use Rattle.ct_records.specs.declared.read_fault.ReadFault.{ReadFault}
use Rattle.ct_records.specs.declared.read_fault.ReadFault.TheVariants.{TooLong, NotJson, Shape, Version, OutOfMemory}
use Rattle.serde_json.specs.Data.{Data}
use Rattle.ct_records.specs.Script.{data_of, script}
use Rattle.ct_told.specs.declared.place.Place.{Place}
use Rattle.ct_told.specs.declared.show_fault.ShowFault.{ShowFault}
use Rattle.ct_told.specs.declared.show_fault.ShowFault.TheVariants.{Unread, Program}
use Rattle.ct_told.specs.OddRecords.{versions_line, whole_line}
use Rattle.ct_told.specs.OddSteps.{step_line}

-- its first byte is a digit
abbrev pub begins_number : List ℕ → Bool
begins_number [] = false
begins_number (c ∷ rest) = nat_le 48 c && nat_le c 57

-- it begins as a schedule does: with a word, a space behind it, or the sign of a comment, or a number
unfoldable pub begins_schedule : List ℕ → Bool
begins_schedule bytes =
    starts_with nat_eq bytes (codes "members ") || (starts_with nat_eq bytes (codes "cells ") || (starts_with nat_eq bytes (codes "batch ")
    || (starts_with nat_eq bytes (codes "all ") || (starts_with nat_eq bytes (codes "#") || begins_number bytes))))

-- ---- the line

-- where the input stops being JSON: nowhere, where it is the front of a JSON text
abbrev pub place_text : Option Place → List ℕ
place_text None = codes ": the input ends too early"
place_text (Some place) = concat (codes " at line " ∷ decimal place.line ∷ codes ", column " ∷ decimal place.column ∷ [])

abbrev pub not_json_line : Option Place → List ℕ
not_json_line place = concat (codes "record: not JSON" ∷ place_text place ∷ [])

-- of an input that is no JSON text
abbrev pub json_line : Option Place → List ℕ → List ℕ
json_line place bytes =
    if begins_schedule bytes then codes "record: not JSON; this is a schedule: ct_tool record makes a record of it"
    else not_json_line place

-- of a JSON text of another shape, as a whole or in the step of this number
abbrev pub shape_line : ℕ → Option Data → List ℕ
shape_line at None = codes "record: not JSON"
shape_line at (Some d) = if at == 0 then whole_line d else step_line at d

-- of the input with this first fault, which stops being JSON at the place
abbrev pub told_line : ReadFault → Option Place → List ℕ → List ℕ
told_line TooLong place bytes = codes "record: too long"
told_line NotJson place bytes = json_line place bytes
told_line (Shape at) place bytes = shape_line at (data_of bytes)
told_line Version place bytes = versions_line
told_line OutOfMemory place bytes = codes "out of memory"

-- this is told of the input with this first fault. Of the place where it stops being JSON nothing is said but that it is told
abbrev pub IsToldAs : List ℕ → ReadFault → List ℕ → Type 0
IsToldAs told fault bytes = (place : Option Place) × (told ≡ told_line fault place bytes)

-- the input is no record, and this is told of it
abbrev pub IsToldOf : List ℕ → List ℕ → Type 0
IsToldOf told bytes = IsErrAnd (script bytes) (λ fault. IsToldAs told fault bytes)

-- the input was not read: it is no record, the reader failed, or memory was refused
abbrev pub IsUnread : ShowFault → List ℕ → Type 0
IsUnread (Unread told) input = IsToldOf told (read_part input)
IsUnread (Program Reader) input = ⊤
IsUnread (Program Memory) input = ⊤
IsUnread _ input = ⊥
