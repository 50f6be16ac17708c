-- Records whose numbers fit their fields.
use Rattle.std.specs.Prelude.{List, [], ◌∷◌, ◌≤◌, length, ⊤}
use Rattle.ct_names.specs.declared.limit.TheConstants.{MAX_BOUND, MAX_CELLS, MAX_MEMBERS, MAX_STEPS}
use Rattle.ct_names.specs.declared.command.Command.{Command}
use Rattle.ct_model.specs.declared.step.Step.{Step}
use Rattle.ct_model.specs.Rehearsal.{Rehearsal}
use Rattle.ct_model.specs.StepText.{Number, amount, largest, Rest, nothing, number, command, command_entry, step_entry}

abbrev pub NumberFits : Number → Type 0
NumberFits x = amount x ≤ largest x

abbrev pub CommandFits : Command → Type 0
CommandFits c = ((command_entry c).first ≤ 255) × NumberFits (command_entry c).rest

abbrev pub RestFits : Rest → Type 0
RestFits nothing = ⊤
RestFits (number x) = NumberFits x
RestFits (command c) = CommandFits c

abbrev pub StepFits : Step → Type 0
StepFits s = ((step_entry s).first ≤ 255) × RestFits (step_entry s).rest

abbrev pub AllFit : List Step → Type 0
AllFit [] = ⊤
AllFit (step ∷ steps) = StepFits step × AllFit steps

-- a group of 1 to 16 members, a bound that a record can name, 1,024 cells and 1,000,000 steps at most, and numbers that fit
pub record IsStorable (w : Rehearsal) : Type 0 where
  pub some_members : 1 ≤ w.setting.members
  pub few_members : w.setting.members ≤ MAX_MEMBERS
  pub some_bound : 1 ≤ w.setting.bound
  pub few_bound : w.setting.bound ≤ MAX_BOUND
  pub few_cells : w.cells ≤ MAX_CELLS
  pub few_steps : length w.steps ≤ MAX_STEPS
  pub fit : AllFit w.steps
