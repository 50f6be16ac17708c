-- What a command line may ask of walks. `clap` gives what its commands make of words.
use Rattle.std.specs.Prelude.{◌≡◌, ◌≤◌, ◌-◌, ◌/◌, ⊤, ℕ, Option, Some, None, ok_or, Result, Ok, Err, List, [], ◌∷◌}
use Rattle.std.specs.Prelude.{codes, decimal, fold, string_bytes}
use Rattle.std.specs.List.{concat, join_by}
use Rattle.clap.specs.Lexer.{usize_max}
use Rattle.clap.specs.Words.{App, Row, Rule, Text, all_of, first_of, new_app, with_rule}
use Rattle.ct_grammar.specs.declared.goal.Goal.{Goal}
use Rattle.ct_grammar.specs.declared.misfit.Misfit.{Misfit}
use Rattle.ct_grammar.specs.Goals.{goal_of}
use Rattle.ct_grammar.specs.Misfits.{misfit_text}
use Rattle.ct_program.specs.declared.free_options.FreeOptions.{FreeOptions}
use Rattle.ct_program.specs.declared.free_options.TheConstants.{MAX_EACH, MAX_RATE, MAX_TURNS}
use Rattle.ct_program.specs.Line.{free_rules, options_of, seedless_of, seedless_rules}
use Rattle.ct_streams.specs.Arguments.{option_rule, value_rule}
use Rattle.ct_streams.specs.declared.status.Status.TheVariants as status
use Rattle.ct_streams.specs.Statuses.{code}
use Rattle.ct_streams.specs.Values.{◌>>=◌, option_in}
use Rattle.ct_streams.specs.WordFaults.{fault_line}
use Rattle.ct_walk.specs.declared.call.Seeds.{Seeds}
use Rattle.ct_walk.specs.declared.call.WalkCall.{WalkCall}
use Rattle.ct_walk.specs.declared.call_fault.CallFault.{CallFault}
use Rattle.ct_walk.specs.declared.call_fault.CallFault.TheVariants.{Memory, Word, NoGoal}
use Rattle.ct_walk.specs.declared.options.WalkOptions.{WalkOptions}
use Rattle.ct_walk.specs.Sights.{in_full}
use Rattle.ct_play.specs.Strangers.{stranger}
use Rattle.ct_walk.specs.Texts.{seeds_of}

-- ---- what clap reads

-- an option with one value or several, which need not be given
abbrev pub goal_rule : Text → Rule
goal_rule name =
    record (value_rule name) { range = Some (record { start_inclusive = 1; end_inclusive = usize_max }); value_names = 1 }

-- an option of a walk alone, whose value is a number, 0 where none is given
abbrev pub own_rule : Text → Rule
own_rule name = record (option_rule name (codes "0")) { value_names = 1 }

abbrev pub own_rules : List Rule
own_rules =
    own_rule (codes "every") ∷ own_rule (codes "scatter") ∷ own_rule (codes "lasting") ∷ own_rule (codes "crashes")
    ∷ own_rule (codes "cut") ∷ []

-- the subcommand `walk`: the options of a free run, those of a walk, and what it is made until
abbrev pub walk_app : App
walk_app =
    fold with_rule (fold with_rule (fold with_rule (new_app (codes "walk")) free_rules) own_rules) (goal_rule (codes "until") ∷ [])

-- the command, and after its arguments the options of a walk but for `seed`
abbrev pub with_search_rules : App → App
with_search_rules app = fold with_rule (fold with_rule app seedless_rules) own_rules

-- ---- what the options ask for, or the line of the first one that asks for nothing

-- what would be right for `seeds`
abbrev pub ranges : Text
ranges = codes "A..B, whole numbers from 0 to 4294967295, A no larger than B"

-- the line of a text that is given for the option and is no goal
abbrev pub no_goal_line : Text → Text → Misfit → Text
no_goal_line name text misfit =
    concat (codes "--" ∷ name ∷ codes " " ∷ text ∷ codes ": not understood: " ∷ misfit_text misfit ∷ [])

abbrev pub goal_or : Text → Text → Result Goal Misfit → Result Goal Text
goal_or name text (Ok goal) = Ok goal
goal_or name text (Err misfit) = Err (no_goal_line name text misfit)

-- the goal of the text that is given for the option
abbrev pub given_goal : Text → Text → Result Goal Text
given_goal name text = goal_or name text (goal_of (in_full text))

-- the line of a goal that names a member that a group of n hasn't
abbrev pub no_member_line : Text → Text → ℕ → ℕ → Text
no_member_line name text member n =
    concat (codes "--" ∷ name ∷ codes " " ∷ text ∷ codes ": no member " ∷ decimal member ∷ codes " of " ∷ decimal n ∷ [])

-- the goal of the text, where a group of n has the members that it names
abbrev pub unless_strange : Text → Text → ℕ → Goal → Option ℕ → Result Goal Text
unless_strange name text n goal None = Ok goal
unless_strange name text n goal (Some member) = Err (no_member_line name text member n)

-- the goal of the text that is given for the option, of a group of n
abbrev pub group_goal : ℕ → Text → Text → Result Goal Text
group_goal n name text = do
  goal ← given_goal name text
  unless_strange name text n goal (stranger n goal)

-- the words, with a space between them
abbrev pub joined : List Text → Text
joined words = join_by (λ word. word) (codes " ") words

-- the goal of the words that are given for the option
abbrev pub goal_or_none : ℕ → Text → Option (List Text) → Result (Option Goal) Text
goal_or_none n name None = Ok None
goal_or_none n name (Some texts) = do
  goal ← group_goal n name (joined texts)
  Ok (Some goal)

-- the goal of a group of n that is given for the option, where it is given
abbrev pub goal_in : List Row → ℕ → Text → Result (Option Goal) Text
goal_in rows n name = goal_or_none n name (all_of name rows)

-- the seeds that the text names
abbrev pub given_seeds : Text → Result Seeds Text
given_seeds text = ok_or (seeds_of text) (fault_line (codes "seeds") (text ∷ []) ranges)

-- these options, where the member that crashes is one of the group, and the others of a walk
unfoldable pub options_with : List Row → FreeOptions → Result WalkOptions Text
options_with rows run = do
  crash ← option_in rows (codes "crash") 0 run.members
  every ← option_in rows (codes "every") 0 MAX_TURNS
  scatter ← option_in rows (codes "scatter") 0 MAX_RATE
  lasting ← option_in rows (codes "lasting") 0 MAX_RATE
  crashes ← option_in rows (codes "crashes") 0 ((run.members - 1) / 2)
  cuts ← option_in rows (codes "cut") 0 MAX_EACH
  Ok (record { run = run; every = every; scatter = scatter; lasting = lasting; crashes = crashes; cuts = cuts })

-- the options of a walk
abbrev pub walk_options : List Row → Result WalkOptions Text
walk_options rows = do
  run ← options_of rows
  options_with rows run

-- the same where no seed is given, which is 0
abbrev pub search_options : List Row → Result WalkOptions Text
search_options rows = do
  run ← seedless_of rows
  options_with rows run

-- the seeds that are given
abbrev pub seeds_or_line : Option Text → Result Seeds Text
seeds_or_line None = Err (fault_line (codes "seeds") [] ranges)
seeds_or_line (Some text) = given_seeds text

abbrev pub seeds_in : List Row → Result Seeds Text
seeds_in rows = seeds_or_line (first_of (codes "seeds") rows)

-- what the options ask for
unfoldable pub walk_call : List Row → Result WalkCall Text
walk_call rows = do
  options ← walk_options rows
  until ← goal_in rows options.run.members (codes "until")
  Ok (record { options = options; until = until })

-- the last seed is none before the first
abbrev pub IsSeedsInRange : Seeds → Type 0
IsSeedsInRange seeds = seeds.first ≤ seeds.last

-- ---- faults

-- the line for standard error
abbrev pub call_fault_text : CallFault → Text
call_fault_text Memory = codes "out of memory"
call_fault_text (Word line) = line
call_fault_text (NoGoal line) = string_bytes line

abbrev pub call_status_of : CallFault → ℕ
call_status_of Memory = code status.Memory
call_status_of (Word line) = code status.Words
call_status_of (NoGoal line) = code status.Words

-- where something comes to this, it may have this fault: the line, or want of memory, of which nothing is said
abbrev pub IsCallFault : {A : Type 0} → Result A Text → CallFault → Type 0
IsCallFault r Memory = ⊤
IsCallFault r (Word line) = r ≡ Err line
IsCallFault r (NoGoal line) = r ≡ Err (string_bytes line)
