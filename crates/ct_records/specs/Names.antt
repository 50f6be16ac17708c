-- Commands and steps by their names.
use Rattle.std.specs.Prelude.{ℕ, Bool, true, List, [], ◌∷◌, nat_le, Option, Some, None, option_and_then, if◌then◌else◌}
use Rattle.std.specs.Str.{bytes_eq}
use Rattle.ct_names.specs.declared.command.Command.{Command}
use Rattle.ct_names.specs.declared.command.Command.TheVariants.{Set, Add, Copy}
use Rattle.ct_model.specs.declared.step.Step.{Step}
use Rattle.ct_model.specs.declared.step.Step.TheVariants.{Submit, Receive, Begin, Enter, Choose, Adopt, Suspect, Conclude, Deliver}
use Rattle.ct_model.specs.declared.step.Step.TheVariants.{Follow, Crash, Postpone, Lose, Repeat}
use Rattle.ct_model.specs.StepText.{Number, amount, largest, Rest, nothing, number, command, Entry, command_entry, step_entry}

-- the one that has the name
abbrev pub named : {A B : Type 0} → (A → Entry B) → List ℕ → List A → Option A
named shown name [] = None
named shown name (x ∷ xs) = if bytes_eq name (shown x).name then Some x else named shown name xs

abbrev pub fits : Number → Bool
fits x = nat_le (amount x) (largest x)

-- the commands of a register and one more number
abbrev pub commands : ℕ → ℕ → List Command
commands register n = Set register n ∷ Add register n ∷ Copy register n ∷ []

-- the command of a name, a register and one more number
unfoldable pub named_command : List ℕ → ℕ → ℕ → Option Command
named_command name register n =
    option_and_then (λ c. if fits (command_entry c).rest then Some c else None) (named command_entry name (commands register n))

-- the steps that have a member alone, and those that have one more number, or a command
abbrev pub alone : ℕ → List Step
alone p = Begin p ∷ Enter p ∷ Adopt p ∷ Suspect p ∷ Conclude p ∷ Deliver p ∷ Follow p ∷ Crash p ∷ []

abbrev pub with_number : ℕ → ℕ → List Step
with_number p n = Receive p n ∷ Choose p n ∷ Postpone p n ∷ Lose p n ∷ Repeat p n ∷ []

abbrev pub with_command : ℕ → Command → List Step
with_command p c = Submit p c ∷ []

abbrev pub rest_fits : Rest → Bool
rest_fits nothing = true
rest_fits (number x) = fits x
rest_fits (command c) = true

-- the step of a name and a member
unfoldable pub short_step : List ℕ → ℕ → Option Step
short_step name p = named step_entry name (alone p)

-- the step of a name, a member and a number
unfoldable pub numbered_step : List ℕ → ℕ → ℕ → Option Step
numbered_step name p n = option_and_then (λ s. if rest_fits (step_entry s).rest then Some s else None)
    (named step_entry name (with_number p n))

-- the step of a name, a member and a command
unfoldable pub commanded_step : List ℕ → ℕ → Command → Option Step
commanded_step name p c = named step_entry name (with_command p c)
