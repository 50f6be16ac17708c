-- How a step is shown: as an entry of a record's list of steps, in JSON.
use Rattle.std.specs.Prelude.{ℕ, List, [], ◌∷◌, ◌++◌, codes, decimal}
use Rattle.std.specs.List.{concat}
use Rattle.ct_names.specs.declared.command.Command.{Command}
use Rattle.ct_names.specs.declared.command.Command.TheVariants.{Set, Add, Copy}
use Rattle.ct_model.specs.declared.step.Step.{Step}
use Rattle.ct_model.specs.declared.step.Step.TheVariants.{Submit, Receive, Begin, Enter, Choose, Adopt, Suspect, Conclude, Deliver}
use Rattle.ct_model.specs.declared.step.Step.TheVariants.{Follow, Crash, Postpone, Lose, Repeat}
use Rattle.ct_model.specs.declared.step.Tail.{Tail}
use Rattle.ct_model.specs.declared.step.Tail.TheVariants.{Nothing, Number as NumberBehind, Command as CommandBehind}

-- ---- what an entry has

-- a number, by the field that holds it: a member or a register; a serial; a register's value or an amount
pub data Number : Type 0 where
  byte : ℕ → Number
  serial : ℕ → Number
  value : ℕ → Number

abbrev pub amount : Number → ℕ
amount (byte n) = n
amount (serial n) = n
amount (value n) = n

-- the largest of such a field
abbrev pub largest : Number → ℕ
largest (byte n) = 255
largest (serial n) = 4294967295
largest (value n) = 18446744073709551615

-- what stands behind a step's member
pub data Rest : Type 0 where
  nothing : Rest
  number : Number → Rest
  command : Command → Rest

-- a name, a member or a register, and the rest
pub record Entry (A : Type 0) : Type 0 where
  pub name : List ℕ
  pub first : ℕ
  pub rest : A

abbrev pub entry : {A : Type 0} → List ℕ → ℕ → A → Entry A
entry name first rest = record { name = name; first = first; rest = rest }

-- ---- the names, and what has them

abbrev pub command_entry : Command → Entry Number
command_entry (Set register n) = entry (codes "set") register (value n)
command_entry (Add register n) = entry (codes "add") register (value n)
command_entry (Copy from to) = entry (codes "copy") from (byte to)

abbrev pub step_entry : Step → Entry Rest
step_entry (Submit p c) = entry (codes "submit") p (command c)
step_entry (Receive p k) = entry (codes "receive") p (number (serial k))
step_entry (Begin p) = entry (codes "begin") p nothing
step_entry (Enter p) = entry (codes "enter") p nothing
step_entry (Choose p from) = entry (codes "choose") p (number (byte from))
step_entry (Adopt p) = entry (codes "adopt") p nothing
step_entry (Suspect p) = entry (codes "suspect") p nothing
step_entry (Conclude p) = entry (codes "conclude") p nothing
step_entry (Deliver p) = entry (codes "deliver") p nothing
step_entry (Follow p) = entry (codes "follow") p nothing
step_entry (Crash p) = entry (codes "crash") p nothing
step_entry (Postpone p k) = entry (codes "postpone") p (number (serial k))
step_entry (Lose p k) = entry (codes "lose") p (number (serial k))
step_entry (Repeat p k) = entry (codes "repeat") p (number (serial k))

-- ---- their texts

-- an array of the name, the number and what these texts are
abbrev pub entry_text : List ℕ → ℕ → List (List ℕ) → List ℕ
entry_text name first rest = concat (codes "[\"" ∷ name ∷ codes "\"," ∷ decimal first ∷ (rest ++ codes "]" ∷ []))

unfoldable pub command_text : Command → List ℕ
command_text c = entry_text (command_entry c).name (command_entry c).first (codes "," ∷ decimal (amount (command_entry c).rest) ∷ [])

abbrev pub rest_texts : Rest → List (List ℕ)
rest_texts nothing = []
rest_texts (number x) = codes "," ∷ decimal (amount x) ∷ []
rest_texts (command c) = codes "," ∷ command_text c ∷ []

unfoldable pub step_text : Step → List ℕ
step_text s = entry_text (step_entry s).name (step_entry s).first (rest_texts (step_entry s).rest)

-- what the code writes behind a step's member
abbrev pub tail_text : Tail → List ℕ
tail_text Nothing = []
tail_text (NumberBehind n) = concat (rest_texts (number (value n)))
tail_text (CommandBehind c) = concat (rest_texts (command c))
