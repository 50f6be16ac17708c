-- Commands and steps in the words of a schedule, where a step names its envelope by its serial.
use Rattle.std.specs.Prelude.{ℕ, List, [], ◌∷◌, codes, decimal}
use Rattle.std.specs.List.{concat}
use Rattle.ct_names.specs.declared.command.Command.{Command}
use Rattle.ct_model.specs.Actor.{actor}
use Rattle.ct_model.specs.StepText.{Rest, nothing, number, serial, command, amount, command_entry, step_entry}
use Rattle.ct_model.specs.declared.step.Step.{Step}

-- as `set 0 7`
unfoldable pub command_words : Command → List ℕ
command_words c = concat ((command_entry c).name ∷ codes " " ∷ decimal (command_entry c).first ∷ codes " "
    ∷ decimal (amount (command_entry c).rest) ∷ [])

-- what stands behind a step's word
abbrev pub rest_words : Rest → List (List ℕ)
rest_words nothing = []
rest_words (number (serial k)) = codes " #" ∷ decimal k ∷ []
rest_words (number n) = codes " " ∷ decimal (amount n) ∷ []
rest_words (command c) = codes " " ∷ command_words c ∷ []

-- as `receive #5`
unfoldable pub act_words : Step → List ℕ
act_words step = concat ((step_entry step).name ∷ rest_words (step_entry step).rest)

-- with its member, as `2 receive #5`
unfoldable pub step_words : Step → List ℕ
step_words step = concat (decimal (actor step) ∷ codes " " ∷ act_words step ∷ [])
