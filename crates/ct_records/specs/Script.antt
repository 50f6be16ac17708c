-- What a record says, or its first fault.
use Rattle.std.specs.Prelude.{ℕ, suc, ◌+◌, ◌==◌, ◌&&◌, List, [], ◌∷◌, length, codes, nat_le, nat_lt, Option, Some, None, Result}
use Rattle.std.specs.Prelude.{Ok, Err, option_map, option_and_then, ok_or, if◌then◌else◌}
use Rattle.std.specs.Option.{option_map_or}
use Rattle.std.specs.Str.{is_utf8}
use Rattle.ct_names.specs.declared.limit.TheConstants.{MAX_BOUND, MAX_CELLS, MAX_MEMBERS}
use Rattle.serde_json.specs.Data.{Data, Items, no_items, item, Members, no_members, member}
use Rattle.serde_json.specs.Read.{read}
use Rattle.serde_json.specs.Find.{get, as_number, as_u64, as_str, as_array, as_object}
use Rattle.ct_names.specs.declared.command.Command.{Command}
use Rattle.ct_model.specs.declared.step.Step.{Step}
use Rattle.ct_model.specs.declared.step.Step.TheVariants.{Follow, Lose, Repeat}
use Rattle.ct_model.specs.Rehearsal.{Rehearsal}
use Rattle.ct_model.specs.When.{when}
pub use Rattle.ct_records.specs.Names.{named, fits, commands, alone, with_number, with_command, rest_fits}
unfoldable pub use Rattle.ct_records.specs.Names.{named_command, short_step, numbered_step, commanded_step}
use Rattle.ct_records.specs.declared.read_fault.ReadFault.{ReadFault}
use Rattle.ct_records.specs.declared.read_fault.ReadFault.TheVariants.{TooLong, NotJson, Shape, Version}

-- the first fault of the two
infixl 10 ◌>>=◌
abbrev pub ◌>>=◌ : {A B : Type 0} → Result A ReadFault → (A → Result B ReadFault) → Result B ReadFault
(Ok x) >>= f = f x
(Err e) >>= f = Err e

-- ---- parts of a value

abbrev pub list_of : Items → List Data
list_of no_items = []
list_of (item d ds) = d ∷ list_of ds

-- the entries of an array
abbrev pub list_in : Data → Option (List Data)
list_in d = option_map list_of (as_array d)

abbrev pub count_of : Members → ℕ
count_of no_members = 0
count_of (member k d ms) = suc (count_of ms)

-- the value's whole number, where it has one in the range
unfoldable pub whole_of : ℕ → ℕ → Data → Option ℕ
whole_of low high d = option_and_then (λ x. if nat_le low x && nat_le x high then Some x else None) (option_and_then as_u64 (as_number d))

-- the number of a member or of a register
abbrev pub byte_of : Data → Option ℕ
byte_of d = whole_of 0 255 d

-- a register's value, or an amount
abbrev pub value_of : Data → Option ℕ
value_of d = whole_of 0 18446744073709551615 d

-- ---- commands and steps

abbrev pub command_parts : List Data → Option Command
command_parts [] = None
command_parts (name ∷ []) = None
command_parts (name ∷ register ∷ []) = None
command_parts (name ∷ register ∷ d ∷ []) =
    option_and_then (λ s. option_and_then (λ r. option_and_then (named_command s r) (value_of d)) (byte_of register)) (as_str name)
command_parts (name ∷ register ∷ d ∷ e ∷ rest) = None

unfoldable pub command_of : Data → Option Command
command_of d = option_and_then command_parts (list_in d)

-- the step of a name, a member and one more entry: where that is no number, a command
unfoldable pub long_step : List ℕ → ℕ → Data → Option Step
long_step name p d = option_map_or (numbered_step name p) (value_of d) (option_and_then (commanded_step name p) (command_of d))

abbrev pub step_parts : List Data → Option Step
step_parts [] = None
step_parts (name ∷ []) = None
step_parts (name ∷ p ∷ []) = option_and_then (λ s. option_and_then (short_step s) (byte_of p)) (as_str name)
step_parts (name ∷ p ∷ d ∷ []) = option_and_then (λ s. option_and_then (λ q. long_step s q d) (byte_of p)) (as_str name)
step_parts (name ∷ p ∷ d ∷ e ∷ rest) = None

unfoldable pub step_of : Data → Option Step
step_of d = option_and_then step_parts (list_in d)

-- the first version of records that has the step
abbrev pub since : Step → ℕ
since (Lose p k) = 2
since (Repeat p k) = 2
since (Follow p) = 3
since _ = 1

-- the step, where records of the version have it
unfoldable pub step_in : ℕ → Data → Option Step
step_in version d = option_and_then (λ s. when (nat_le (since s) version) s) (step_of d)

-- the steps of a record of the version, of which the first is the at-th, or the fault of the first that is none
unfoldable pub steps_of : ℕ → ℕ → List Data → Result (List Step) ReadFault
steps_of version at [] = Ok []
steps_of version at (d ∷ ds) = do
  s ← ok_or (step_in version d) (Shape at)
  ss ← steps_of version (at + 1) ds
  Ok (s ∷ ss)

-- ---- the whole

-- how many keys a record of the version has
abbrev pub keys : ℕ → ℕ
keys version = if version == 3 then 5 else 4

-- the bound on a proposal: a record of version 3 names it, others have the largest
unfoldable pub bound_in : ℕ → Data → Option ℕ
bound_in version d = if version == 3 then option_and_then (whole_of 1 MAX_BOUND) (get (codes "batch") d) else Some MAX_BOUND

-- the number of members, the bound, the number of cells, the steps
unfoldable pub rehearsal_in : ℕ → Data → Result Rehearsal ReadFault
rehearsal_in version d = do
  n ← ok_or (option_and_then (whole_of 1 MAX_MEMBERS) (get (codes "n") d)) (Shape 0)
  bound ← ok_or (bound_in version d) (Shape 0)
  cells ← ok_or (option_and_then (whole_of 0 MAX_CELLS) (get (codes "cells") d)) (Shape 0)
  ds ← ok_or (option_and_then list_in (get (codes "steps") d)) (Shape 0)
  steps ← steps_of version 1 ds
  Ok (record { setting = record { members = n; bound = bound }; cells = cells; steps = steps })

-- an object with a version, which is 1, 2 or 3, and with as many members as it has keys
unfoldable pub of_value : Data → Result Rehearsal ReadFault
of_value d = do
  ms ← ok_or (as_object d) (Shape 0)
  version ← ok_or (option_and_then value_of (get (codes "version") d)) (Shape 0)
  if nat_le 1 version && nat_le version 3 then
      (if count_of ms == keys version then rehearsal_in version d else Err (Shape 0)) else Err Version

-- the value of bytes that are text
abbrev pub data_of : List ℕ → Option Data
data_of bytes = if is_utf8 bytes then read bytes else None

-- how many bytes a record may have
abbrev pub max_len : ℕ
max_len = 67108864

-- what the bytes say, or the first of the faults: too long, no JSON, the shape or the version of the whole, a step
unfoldable pub script : List ℕ → Result Rehearsal ReadFault
script bytes = if nat_lt max_len (length bytes) then Err TooLong else (ok_or (data_of bytes) NotJson >>= of_value)
