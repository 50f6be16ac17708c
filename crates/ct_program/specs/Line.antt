-- How the program's command line is read. `clap` gives what its commands make of words.
use Rattle.std.specs.Prelude.{◌≡◌, ℕ, true, List, [], ◌∷◌, ◌++◌, codes, Option, Some, None, option_and_then, Result, Ok, Err}
use Rattle.std.specs.Prelude.{if◌then◌else◌, string_bytes, unwrap_or, ⊤}
use Rattle.std.specs.Option.{option_map_or}
use Rattle.std.specs.Str.{bytes_eq}
use Rattle.ct_names.specs.declared.limit.TheConstants.{MAX_BOUND, MAX_CELLS, MAX_MEMBERS}
use Rattle.clap.specs.Words.{App, Kinds, HasKind, Row, Rule, Text, fault_of, first_of, kind_of, new_app, subcommand_of, with_rule}
use Rattle.clap.specs.Words.{with_subcommand}
use Rattle.clap.specs.Simple.{on_top}
use Rattle.clap.specs.declared.error.kind.ErrorKind.TheVariants.{OutOfMemory}
use Rattle.ct_streams.specs.Arguments.{file_rule, option_rule, required_rule}
use Rattle.ct_streams.specs.Values.{◌>>=◌, option_in}
use Rattle.ct_program.specs.declared.call.Call.{Call}
use Rattle.ct_program.specs.declared.call.Call.TheVariants.{Replay, Free}
use Rattle.ct_program.specs.declared.free_options.FreeOptions.{FreeOptions}
use Rattle.ct_program.specs.declared.free_options.TheConstants.{MAX_EACH, MAX_RATE, MAX_TURNS}
use Rattle.ct_program.specs.declared.line_fault.LineFault.{LineFault}
use Rattle.ct_program.specs.declared.line_fault.LineFault.TheVariants.{Clap, Range, Memory}

-- ---- what clap reads

-- the options after `members`, `turns` and `seed`
abbrev pub other_rules : List Rule
other_rules =
    option_rule (codes "rate") (codes "64") ∷ option_rule (codes "cells") (codes "64") ∷ option_rule (codes "submit") (codes "8")
    ∷ option_rule (codes "crash") (codes "0") ∷ option_rule (codes "postpone") (codes "0") ∷ option_rule (codes "lose") (codes "0")
    ∷ option_rule (codes "repeat") (codes "0") ∷ option_rule (codes "batch") (codes "1048560") ∷ []

abbrev pub members_rule : Rule
members_rule = record (required_rule (codes "members")) { value_names = 1 }

abbrev pub group_rules : List Rule
group_rules = members_rule ∷ option_rule (codes "turns") (codes "1000") ∷ []

-- the options of a free run
abbrev pub free_rules : List Rule
free_rules = group_rules ++ (option_rule (codes "seed") (codes "0") ∷ other_rules)

-- the same but for `seed`
abbrev pub seedless_rules : List Rule
seedless_rules = group_rules ++ other_rules

-- the subcommand `free`
abbrev pub free_app : App
free_app = on_top (λ s. record s { rules = free_rules }) (new_app (codes "free"))

-- the subcommand `replay`
abbrev pub replay_app : App
replay_app = with_rule (new_app (codes "replay")) file_rule

-- the program has a version and two subcommands, `replay` and `free`, of which one has to be given
abbrev pub program : App
program =
    with_subcommand (with_subcommand (on_top (λ s. record s { has_version = true; subcommand_required = true }) (new_app (codes "ct")))
    replay_app.top) free_app.top

-- the kinds of fault that the words may have, the program's name first; none where clap accepts them
unfoldable pub faults_of : List Text → Kinds
faults_of words = fault_of program words

-- ---- what the words ask for

-- the options of a free run of this seed, where there is one; else the line of the first one, in this order, that is no whole
-- number of its range
unfoldable pub options_with : List Row → Result ℕ Text → Result FreeOptions Text
options_with rows given = do
  members ← option_in rows (codes "members") 1 MAX_MEMBERS
  turns ← option_in rows (codes "turns") 0 MAX_TURNS
  seed ← given
  rate ← option_in rows (codes "rate") 0 MAX_RATE
  cells ← option_in rows (codes "cells") 0 MAX_CELLS
  submit ← option_in rows (codes "submit") 0 MAX_EACH
  crash ← option_in rows (codes "crash") 0 MAX_MEMBERS
  postpone ← option_in rows (codes "postpone") 0 MAX_EACH
  lose ← option_in rows (codes "lose") 0 MAX_EACH
  repeat ← option_in rows (codes "repeat") 0 MAX_EACH
  batch ← option_in rows (codes "batch") 1 MAX_BOUND
  Ok (record {
    members = members;
    turns = turns;
    seed = seed;
    rate = rate;
    cells = cells;
    submit = submit;
    crash = crash;
    postpone = postpone;
    lose = lose;
    repeat = repeat;
    batch = batch;
  })

-- the options of a free run
abbrev pub options_of : List Row → Result FreeOptions Text
options_of rows = options_with rows (option_in rows (codes "seed") 0 4294967295)

-- the same where no seed is given, which is 0
abbrev pub seedless_of : List Row → Result FreeOptions Text
seedless_of rows = options_with rows (Ok 0)

-- a free run of these options
abbrev pub freely : Result FreeOptions Text → Result Call Text
freely (Ok options) = Ok (Free options)
freely (Err line) = Err line

-- the call of a subcommand, by its name and what clap found for its options
abbrev pub call_at : Text → List Row → Option (Result Call Text)
call_at name rows =
    if bytes_eq name (codes "replay") then Some (Ok Replay) else
    (if bytes_eq name (codes "free") then Some (freely (options_of rows)) else None)

-- what the words ask for, where clap accepts them; or the line of the first option whose value isn't of its range
unfoldable pub call_of : List Text → Option (Result Call Text)
call_of words = option_and_then (λ found. call_at found.0 found.1) (subcommand_of program words)

-- the file that a subcommand is about, by its name and what clap found for its arguments
abbrev pub file_at : Text → List Row → Text
file_at name rows = if bytes_eq name (codes "replay") then unwrap_or (first_of (codes "file") rows) (codes "-") else codes "-"

-- the same of the subcommand that clap found
abbrev pub file_in : Option (Text × List Row) → Text
file_in found = option_map_or (λ found. file_at found.0 found.1) found (codes "-")

-- the file that the words name, where clap accepts them
unfoldable pub file_of : List Text → Text
file_of words = file_in (subcommand_of program words)

-- ---- faults

-- the fault is of one of these kinds, want of memory, or of a value where clap accepts the words
abbrev pub IsOfKind : Kinds → LineFault → Type 0
IsOfKind kinds (Clap error) = HasKind kinds error
IsOfKind kinds (Range line) = kinds ≡ []
IsOfKind kinds Memory = ⊤

-- memory was refused, while clap read the words or before
abbrev pub IsMemory : LineFault → Type 0
IsMemory (Clap error) = kind_of error ≡ OutOfMemory
IsMemory (Range line) = ⊥
IsMemory Memory = ⊤

-- the line of an option, or want of memory for it
abbrev pub IsTold : Text → LineFault → Type 0
IsTold line (Clap error) = ⊥
IsTold line (Range text) = string_bytes text ≡ line
IsTold line Memory = ⊤

-- a value isn't of its option's range, and this line says so
abbrev pub IsRangeOf : List Text → LineFault → Type 0
IsRangeOf words (Range line) = call_of words ≡ Some (Err (string_bytes line))
IsRangeOf words _ = ⊤
