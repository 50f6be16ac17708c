-- The lexemes of steps, and of what they are made of.
use Rattle.std.specs.Prelude.{◌≡◌, ℕ, Bool, true, List, [], ◌∷◌, ◌++◌, decimal, if◌then◌else◌}
use Rattle.json.specs.Token.{begin_array, end_array, string, number}
use Rattle.json.specs.Lex.{Lexeme, token, comma, lex, between}
use Rattle.json.specs.Print.{quoted}
use Rattle.json.specs.Word.{is_operator, ends_word}
use Rattle.ct_names.specs.declared.command.Command.{Command}
use Rattle.ct_model.specs.declared.step.Step.{Step}
use Rattle.ct_model.specs.StepText as steps
use Rattle.ct_model.specs.StepText.{amount, Rest, nothing, command, command_entry, step_entry}

-- ---- lexemes, before what follows

abbrev pub lexemes : List ℕ → List Lexeme
lexemes bytes = lex between bytes

abbrev pub number_lexeme : ℕ → Lexeme
number_lexeme n = token (number (decimal n))

abbrev pub entry_lexemes : List ℕ → ℕ → List Lexeme → List Lexeme
entry_lexemes name first rest = token begin_array ∷ token (string name) ∷ comma ∷ number_lexeme first ∷ rest

abbrev pub command_lexemes : Command → List Lexeme → List Lexeme
command_lexemes c after =
    entry_lexemes (command_entry c).name (command_entry c).first
    (comma ∷ number_lexeme (amount (command_entry c).rest) ∷ token end_array ∷ after)

abbrev pub rest_lexemes : Rest → List Lexeme → List Lexeme
rest_lexemes nothing after = after
rest_lexemes (steps.number x) after = comma ∷ number_lexeme (amount x) ∷ after
rest_lexemes (command c) after = comma ∷ command_lexemes c after

abbrev pub step_lexemes : Step → List Lexeme → List Lexeme
step_lexemes s after = entry_lexemes (step_entry s).name (step_entry s).first (rest_lexemes (step_entry s).rest (token end_array ∷ after))

-- two numbers, and the bracket behind them
abbrev pub pair_lexemes : ℕ → ℕ → List Lexeme → List Lexeme
pair_lexemes p n after = number_lexeme p ∷ comma ∷ number_lexeme n ∷ token end_array ∷ after

abbrev pub comma_if : Bool → List Lexeme → List Lexeme
comma_if later after = if later then comma ∷ after else after

-- a comma stands between each two steps, and before the first where another stands before them
abbrev pub steps_lexemes : Bool → List Step → List Lexeme → List Lexeme
steps_lexemes later [] after = after
steps_lexemes later (s ∷ ss) after = comma_if later (step_lexemes s (steps_lexemes true ss after))

-- ---- one lexeme

-- behind white space, or none, stands the byte
pub record Begins (bytes : List ℕ) (byte : ℕ) (rest : List ℕ) : Type 0 where
  pub text : lexemes bytes ≡ lexemes (byte ∷ rest)
  pub ends : is_operator byte ≡ true → ends_word bytes ≡ true

-- nothing in it is escaped
abbrev pub IsPlain : List ℕ → Type 0
IsPlain s = quoted s ≡ 34 ∷ (s ++ 34 ∷ [])
