-- Messages by their numbers, as bindings/ct.h has them.
use Rattle.std.specs.Prelude.{ℕ}
use Rattle.ct_names.specs.declared.command.Command.{Command}
use Rattle.ct_names.specs.declared.command.Command.TheVariants.{Set, Add, Copy}
use Rattle.ct_names.specs.Message.{Message}
use Rattle.ct_embed.specs.declared.message_code.MessageCode.{MessageCode}

-- the numbers of a message of this origin and number
abbrev pub told_code : ℕ → ℕ → Command → MessageCode
told_code origin number (Set register value) = record { value = value; number = number; origin = origin; command = 1; reg = register }
told_code origin number (Add register amount) = record { value = amount; number = number; origin = origin; command = 2; reg = register }
told_code origin number (Copy from to) = record { value = to; number = number; origin = origin; command = 3; reg = from }

abbrev pub message_code : Message → MessageCode
message_code m = told_code m.origin m.number m.command

-- the numbers of no message
abbrev pub no_message : MessageCode
no_message = record { value = 0; number = 0; origin = 0; command = 0; reg = 0 }
