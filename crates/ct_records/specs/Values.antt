-- The value that a record is.
use Rattle.std.specs.Prelude.{ℕ, Bool, true, false, List, [], ◌∷◌, codes}
use Rattle.serde_json.specs.Data.{Data, array, string, number, object, unsigned, Items, no_items, item, Members, no_members, member}
use Rattle.ct_names.specs.declared.command.Command.{Command}
use Rattle.ct_model.specs.declared.step.Step.{Step}
use Rattle.ct_model.specs.Rehearsal.{Rehearsal}
use Rattle.ct_model.specs.StepText as steps
use Rattle.ct_model.specs.StepText.{amount, Rest, nothing, command, command_entry, step_entry}

abbrev pub num : ℕ → Data
num n = number (unsigned n)

-- an array of a name, a number and these items
abbrev pub entry_data : List ℕ → ℕ → Items → Data
entry_data name first rest = array (item (string name) (item (num first) rest))

abbrev pub command_data : Command → Data
command_data c = entry_data (command_entry c).name (command_entry c).first (item (num (amount (command_entry c).rest)) no_items)

abbrev pub rest_data : Rest → Items
rest_data nothing = no_items
rest_data (steps.number x) = item (num (amount x)) no_items
rest_data (command c) = item (command_data c) no_items

abbrev pub step_data : Step → Data
step_data s = entry_data (step_entry s).name (step_entry s).first (rest_data (step_entry s).rest)

abbrev pub steps_data : List Step → Items
steps_data [] = no_items
steps_data (s ∷ ss) = item (step_data s) (steps_data ss)

abbrev pub with_bound : Bool → ℕ → Members → Members
with_bound true bound ms = member (codes "batch") (num bound) ms
with_bound false bound ms = ms

abbrev pub sizes_members : ℕ → Rehearsal → Members
sizes_members version w =
    member (codes "cells") (num w.cells) (member (codes "n") (num w.setting.members) (member (codes "steps") (array (steps_data w.steps))
    (member (codes "version") (num version) no_members)))

-- the value of a record of the version, in which the bound is named or not
abbrev pub record_data : Bool → ℕ → Rehearsal → Data
record_data named version w = object (with_bound named w.setting.bound (sizes_members version w))
