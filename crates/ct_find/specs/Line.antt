-- What a command line may ask of a search. `clap` gives what its commands make of words.
use Rattle.std.specs.Prelude.{◌<◌, ℕ, Bool, true, false, Option, Some, None, IfSome, Result, Ok, Err, List, [], ◌∷◌, fold, codes}
use Rattle.clap.specs.Lexer.{usize_max}
use Rattle.clap.specs.Words.{App, Row, Rule, Text, all_of, first_of, new_app, with_rule}
use Rattle.ct_streams.specs.Arguments.{flag_rule, option_rule, required_rule, value_rule}
use Rattle.ct_streams.specs.Values.{◌>>=◌, is_set, number_for}
use Rattle.ct_streams.specs.WordFaults.{fault_line}
use Rattle.ct_walk.specs.Line.{group_goal, joined, search_options, seeds_in, with_search_rules, IsSeedsInRange}
use Rattle.ct_walk.specs.Options.{IsInRange}
use Rattle.ct_find.specs.declared.call.FindCall.{FindCall}
use Rattle.ct_find.specs.declared.count_text.CountForm.{CountForm}
use Rattle.ct_find.specs.declared.count_text.CountForm.TheVariants.{Table, Json}

-- ---- what clap reads

-- an option with one value or several, which has to be given
abbrev pub goal_rule : Rule
goal_rule =
    record (required_rule (codes "goal")) { range = Some (record { start_inclusive = 1; end_inclusive = usize_max }); value_names = 1 }

abbrev pub seeds_rule : Rule
seeds_rule = record (required_rule (codes "seeds")) { value_names = 1 }

abbrev pub jobs_rule : Rule
jobs_rule = record (value_rule (codes "jobs")) { value_names = 1 }

-- the same, which asks for another one beside it
abbrev pub asking_rule : Text → Rule
asking_rule name = record (flag_rule name) { is_free = false }

-- it may not stand beside another one
abbrev pub best_rule : Rule
best_rule = record (value_rule (codes "best")) { value_names = 1; is_free = false }

-- it asks for another one
abbrev pub tries_rule : Rule
tries_rule = record (option_rule (codes "tries") (codes "10000")) { value_names = 1; is_free = false }

-- the command, and after its arguments those of the smallest run
abbrev pub with_best_rules : App → App
with_best_rules app = fold with_rule app (best_rule ∷ tries_rule ∷ asking_rule (codes "record") ∷ [])

-- the subcommand `find`: the options of a walk but for its seed, and nine of its own
abbrev pub find_app : App
find_app =
    with_best_rules (fold with_rule (with_search_rules (new_app (codes "find")))
    (goal_rule ∷ seeds_rule ∷ jobs_rule ∷ flag_rule (codes "quiet") ∷ flag_rule (codes "count") ∷ asking_rule (codes "json") ∷ []))

-- ---- what the options ask for, or the line of the first one that asks for nothing

-- what would be right for `goal`
abbrev pub goals : Text
goals = codes "a goal, as any round >= 4"

abbrev pub text_or_line : Option (List Text) → Result Text Text
text_or_line None = Err (fault_line (codes "goal") [] goals)
text_or_line (Some words) = Ok (joined words)

-- the words that are given for `goal`
abbrev pub text_in : List Row → Result Text Text
text_in rows = text_or_line (all_of (codes "goal") rows)

abbrev pub jobs_or_none : Option Text → Result (Option ℕ) Text
jobs_or_none None = Ok None
jobs_or_none (Some text) = do
  jobs ← number_for (codes "jobs") 1 64 text
  Ok (Some jobs)

-- how many threads are asked for, where that is given
abbrev pub jobs_in : List Row → Result (Option ℕ) Text
jobs_in rows = jobs_or_none (first_of (codes "jobs") rows)

-- what the options ask for
unfoldable pub find_call : List Row → Result FindCall Text
find_call rows = do
  options ← search_options rows
  text ← text_in rows
  goal ← group_goal options.run.members (codes "goal") text
  seeds ← seeds_in rows
  jobs ← jobs_in rows
  Ok (record { options = options; goal = goal; text = text; seeds = seeds; jobs = jobs })

-- the form of a count, where one is asked for
abbrev pub form_of : Bool → Bool → Option CountForm
form_of true true = Some Json
form_of true false = Some Table
form_of false json = None

-- as what the options ask for a count
abbrev pub count_form : List Row → Option CountForm
count_form rows = form_of (is_set rows (codes "count")) (is_set rows (codes "json"))

-- each option is in its range
pub record IsFindInRange (call : FindCall) : Type 0 where
  pub options : IsInRange call.options
  pub seeds : IsSeedsInRange call.seeds
  pub jobs : IfSome call.jobs (λ n. 0 < n)
