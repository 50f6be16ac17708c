-- What reports say of members, in words.
use Rattle.std.specs.Prelude.{ℕ, List, [], ◌∷◌, ◌++◌, length, Option, Some, None, Result, Ok, Err, codes, if◌then◌else◌}
use Rattle.std.specs.Option.{ok_or}
use Rattle.std.specs.Str.{bytes_eq}
use Rattle.ct_table.specs.Table.{zeros}
use Rattle.ct_grammar.specs.declared.claim.Name.{Name}
use Rattle.ct_grammar.specs.declared.reports.decision.Decision.{Decision}
use Rattle.ct_grammar.specs.declared.reports.estimate.Estimate.{Estimate}
use Rattle.ct_grammar.specs.declared.unfit.Unfit.{Unfit}
use Rattle.ct_grammar.specs.declared.unfit.Unfit.TheVariants.{End, Word as Other}
use Rattle.ct_grammar.specs.declared.wanted.Wanted.{Wanted}
use Rattle.ct_grammar.specs.declared.wanted.Wanted.TheVariants as wanted
use Rattle.ct_grammar.specs.Words.{Word}
use Rattle.ct_grammar.specs.Unfits.{◌>>=◌, map_ok}
use Rattle.ct_grammar.specs.Leading.{behind_term, lone_whole, over}
use Rattle.ct_grammar.specs.Names.{decision_of, glued, name_of, value_of, with_register}

-- a dash alone; None where another word stands there
unfoldable pub lone_dash : Wanted → List Word → Option (Result (Unit {0}) Unfit)
lone_dash what [] = Some (Err (End what))
lone_dash what (word ∷ words) =
    if bytes_eq word (codes "-") then Some (over (behind_term wanted.Nothing words) words) else None

-- nothing where a dash says so, else what is read
abbrev pub unless_dash : {A : Type 0} → Option (Result (Unit {0}) Unfit) → A → Result A Unfit → Result A Unfit
unless_dash None nothing read = read
unless_dash (Some said) nothing read = map_ok (λ _. nothing) said

-- the names, and behind them those of the words
abbrev pub with_names : List Name → List Word → Result (List Name) Unfit
with_names names [] = Ok names
with_names names (word ∷ words) = do
  name ← ok_or (name_of word) (Other (length words) wanted.Messages)
  with_names (names ++ name ∷ []) words

-- messages
unfoldable pub messages_of : List Word → Result (List Name) Unfit
messages_of words = unless_dash (lone_dash wanted.Messages words) [] (with_names [] words)

-- the decisions, and behind them those of the words, whose instances rise
abbrev pub with_decisions : List Decision → ℕ → List Word → Result (List Decision) Unfit
with_decisions decisions last [] = Ok decisions
with_decisions decisions last (word ∷ words) = do
  decision ← ok_or (decision_of last word) (Other (length words) wanted.Decisions)
  with_decisions (decisions ++ decision ∷ []) decision.instance words

-- decisions
unfoldable pub decisions_of : List Word → Result (List Decision) Unfit
decisions_of words = unless_dash (lone_dash wanted.Decisions words) [] (with_decisions [] 0 words)

-- the values of the registers, where also those of the words have theirs
abbrev pub with_registers : List ℕ → List Word → Result (List ℕ) Unfit
with_registers values [] = Ok values
with_registers values (word ∷ words) = do
  more ← ok_or (with_register values word) (Other (length words) wanted.Registers)
  with_registers more words

-- a table
unfoldable pub table_of : List Word → Result (List ℕ) Unfit
table_of words = unless_dash (lone_dash wanted.Registers words) zeros (with_registers zeros words)

-- `ts` and a round, alone
unfoldable pub ts_of : List Word → Result ℕ Unfit
ts_of [] = Err (End wanted.Ts)
ts_of (word ∷ words) =
    if bytes_eq word (codes "ts") then lone_whole wanted.Count words else Err (Other (length words) wanted.Ts)

-- a value and its ts
unfoldable pub adopted_of : List Word → Result Estimate Unfit
adopted_of [] = Err (End wanted.Estimate)
adopted_of (word ∷ words) = do
  names ← ok_or (value_of (glued word words).0) (Other (length words) wanted.Estimate)
  ts ← ts_of (glued word words).1
  Ok (record { names = names; ts = ts })

-- an estimate, if there is one
unfoldable pub estimate_of : List Word → Result (Option Estimate) Unfit
estimate_of words = unless_dash (lone_dash wanted.Estimate words) None (map_ok Some (adopted_of words))
