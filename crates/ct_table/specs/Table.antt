-- A table of REGISTERS registers, as the list of their values.
use Rattle.std.specs.Prelude.{ℕ, ◌+◌, List, fold, min, replicate, slice_index, slice_set}
use Rattle.ct_names.specs.declared.command.Command.{Command}
use Rattle.ct_names.specs.declared.limit.TheConstants.{REGISTERS}
use Rattle.ct_names.specs.declared.command.Command.TheVariants.{Set, Add, Copy}
use Rattle.ct_names.specs.Message.{Message}

-- the table at first
abbrev pub zeros : List ℕ
zeros = replicate REGISTERS 0

-- the table after a command
abbrev pub applied : List ℕ → Command → List ℕ
applied values (Set register value) = slice_set values register value
applied values (Add register amount) = slice_set values register (min (slice_index values register + amount) 18446744073709551615)
applied values (Copy from to) = slice_set values to (slice_index values from)

-- the table after the commands of the messages, in order
abbrev pub applied_all : List ℕ → List Message → List ℕ
applied_all values messages = fold (λ so_far m. applied so_far m.command) values messages

-- the table that the messages make
abbrev pub table : List Message → List ℕ
table messages = applied_all zeros messages
