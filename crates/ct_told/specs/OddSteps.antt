-- What is wrong with a step of a record.
use Rattle.std.specs.Prelude.{ℕ, ◌-◌, List, [], ◌∷◌, nat_le, codes, decimal, Option, Some, None, option_and_then, unwrap_or}
use Rattle.std.specs.Prelude.{if◌then◌else◌}
use Rattle.std.specs.List.{concat}
use Rattle.serde_json.specs.Data.{Data}
use Rattle.serde_json.specs.Find.{get, at, as_number, as_u64, as_str}
use Rattle.ct_names.specs.declared.command.Command.TheVariants.{Set}
use Rattle.ct_model.specs.declared.step.Step.{Step}
use Rattle.ct_model.specs.declared.step.Step.TheVariants.{Submit, Receive, Begin, Enter, Choose, Adopt, Suspect, Conclude, Deliver}
use Rattle.ct_model.specs.declared.step.Step.TheVariants.{Follow, Crash, Postpone, Lose, Repeat}
use Rattle.ct_model.specs.StepText.{Number, byte, serial, value, Rest, nothing, number, command, step_entry, step_text}
use Rattle.ct_grammar.specs.Misfits.{act_hint}
use Rattle.ct_records.specs.Script.{named, since}
use Rattle.ct_told.specs.GivenNames.{given_text}

-- the name of the step of this number, from 1, where its entry is a list that begins with a text
unfoldable pub name_at : ℕ → Data → Option (List ℕ)
name_at i d = option_and_then as_str (option_and_then (at 0) (option_and_then (at (i - 1)) (get (codes "steps") d)))

-- the version of the record
unfoldable pub version_of : Data → ℕ
version_of d = unwrap_or (option_and_then as_u64 (option_and_then as_number (get (codes "version") d))) 3

-- ---- steps by example

-- a step of each name
abbrev pub examples : List Step
examples =
    Submit 2 (Set 0 7) ∷ Receive 2 7 ∷ Begin 2 ∷ Enter 2 ∷ Choose 2 1 ∷ Adopt 2 ∷ Suspect 2 ∷ Conclude 2 ∷ Deliver 2 ∷ Follow 2 ∷
    Crash 2 ∷ Postpone 2 7 ∷ Lose 2 7 ∷ Repeat 2 7 ∷ []

-- the one that has the name
unfoldable pub example : List ℕ → Option Step
example name = named step_entry name examples

-- what stands behind the name of a step with this rest
abbrev pub number_text : Number → List ℕ
number_text (byte n) = codes "a member and a sender (0 to 255 each)"
number_text (serial n) = codes "a member (0 to 255) and a serial (0 to 4294967295)"
number_text (value n) = codes "a member (0 to 255) and a value"

abbrev pub operands_text : Rest → List ℕ
operands_text nothing = codes "a member (0 to 255)"
operands_text (number x) = number_text x
operands_text (command c) = codes "a member (0 to 255) and a command (set, add or copy)"

-- ---- the line

-- of a name that no step has
unfoldable pub no_step_text : List ℕ → List ℕ
no_step_text name = concat (given_text [] (codes "name") name ∷ codes " is no step" ∷ act_hint name ∷ [])

-- of a step that records of the version don't have
abbrev pub later_text : ℕ → List ℕ → List ℕ
later_text version name = concat (name ∷ codes " is no step of version " ∷ decimal version ∷ [])

-- of one behind whose name another thing stands
abbrev pub wants_text : List ℕ → Step → List ℕ
wants_text name s = concat (name ∷ codes " wants " ∷ operands_text (step_entry s).rest ∷ codes ", as " ∷ step_text s ∷ [])

unfoldable pub known_text : ℕ → List ℕ → Step → List ℕ
known_text version name s = if nat_le (since s) version then wants_text name s else later_text version name

abbrev pub named_text : ℕ → List ℕ → Option Step → List ℕ
named_text version name None = no_step_text name
named_text version name (Some s) = known_text version name s

abbrev pub entry_text : ℕ → Option (List ℕ) → List ℕ
entry_text version None = codes "a list that begins with the name of a step is wanted, as [\"begin\",2]"
entry_text version (Some name) = named_text version name (example name)

-- of the step of this number
abbrev pub step_line : ℕ → Data → List ℕ
step_line i d = concat (codes "record: step " ∷ decimal i ∷ codes ": " ∷ entry_text (version_of d) (name_at i d) ∷ [])
