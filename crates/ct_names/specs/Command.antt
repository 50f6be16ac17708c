-- Registers are good below REGISTERS.
use Rattle.std.specs.Prelude.{Bool, ◌&&◌, nat_lt}
use Rattle.ct_names.specs.declared.command.Command.{Command}
use Rattle.ct_names.specs.declared.command.Command.TheVariants.{Set, Add, Copy}
use Rattle.ct_names.specs.declared.limit.TheConstants.{REGISTERS}

-- each register of the command is there
abbrev pub is_good : Command → Bool
is_good (Set register value) = nat_lt register REGISTERS
is_good (Add register amount) = nat_lt register REGISTERS
is_good (Copy from to) = nat_lt from REGISTERS && nat_lt to REGISTERS
