-- What clap makes of the program's words.
use Rattle.std.proofs.Common.{arith, ◌≡◌, Bool, true, false, List, [], ◌∷◌, Option, Some, None, option_map, option_and_then, Box, box_value}
use Rattle.std.proofs.Common.{Ok, Err, codes, refl, ap, ◌∙◌, sym, subst, inl, inr, IsSomeAnd, ◌⊎◌}
use Rattle.std.proofs.lemmas.Bool.Decides.{nat_tests}
use Rattle.std.specs.Prelude.{if◌then◌else◌, unwrap_or}
use Rattle.std.specs.Str.{bytes_eq}
use Rattle.std.proofs.lemmas.Slice.Eq.{bytes_eq-Decides}
use Rattle.std.specs.declared.alloc.Global.{Global}
use Rattle.clap.specs.Words.{AddsSubcommand, App, HasKind, HasMatchesOf, Kinds, Row, Text, app_of, fault_of, is_simple}
use Rattle.clap.specs.Words.{first_of, is_simple_and_free, kind_of, subcommand_name_of, subcommand_of, subcommand_rows}
use Rattle.clap.specs.Words.{subcommand_rows_of, with_subcommand}
use Rattle.clap.specs.declared.builder.command.Command.{Command}
use Rattle.clap.specs.Simple.{argument_words, built}
use Rattle.clap.specs.declared.parser.matches.ArgMatches.{ArgMatches}
use Rattle.clap.specs.declared.parser.matches.ArgMatches.TheViews.{out-ArgMatches, out-SubCommand}
use Rattle.clap.specs.declared.parser.matches.SubCommand.{SubCommand}
use Rattle.clap.specs.declared.error.Error.{Error}
use Rattle.clap.specs.declared.error.kind.ErrorKind.TheVariants.{OutOfMemory}
use Rattle.clap.proofs.OnLiterals.{clap_on_literals}
use Rattle.ct_program.specs.declared.call.Call.TheVariants.{Replay}
use Rattle.ct_program.specs.declared.line_fault.LineFault.{LineFault}
use Rattle.ct_program.specs.declared.line_fault.LineFault.TheVariants.{Clap, Range, Memory}
use Rattle.ct_program.specs.Line.{IsOfKind, IsRangeOf, IsTold, call_at, call_of, faults_of, file_in, file_of, freely, options_of}
use Rattle.ct_program.specs.Line.{program}
use Rattle.ct_program.proofs.Subcommands.{accepted}

is_free : is_simple_and_free program ≡ true
unfolding clap_on_literals
is_free = refl

-- clap says what it makes of words of a command of this kind
pub exact_app : (app : App) → app ≡ program → is_simple_and_free app ≡ true
exact_app app e = ap is_simple_and_free e ∙ is_free

pub no_faults : (app : App) (words : List Text) → app ≡ program → fault_of app words ≡ [] → faults_of words ≡ []
unfolding faults_of
no_faults app words e h = ap (λ a. fault_of a words) (sym e) ∙ h

pub has_kind : (app : App) (words : List Text) (error : Error) → app ≡ program → HasKind (fault_of app words) error →
    HasKind (faults_of words) error
unfolding faults_of
has_kind app words error e h = subst (λ a. HasKind (fault_of a words) error) e h

replay_faults : (name : Text) → faults_of (name ∷ codes "replay" ∷ []) ≡ []
unfolding clap_on_literals faults_of
replay_faults name = refl

from_memory : (error : Error) → HasKind [] error → kind_of error ≡ OutOfMemory
from_memory error (inl memory) = memory
from_memory error (inr none) = absurd none

pub replay_passes : (words : List Text) (name : Text) (error : Error) → HasKind (faults_of words) error →
    words ≡ name ∷ codes "replay" ∷ [] → kind_of error ≡ OutOfMemory
replay_passes words name error h e = from_memory error (subst (λ kinds. HasKind kinds error) (ap faults_of e ∙ replay_faults name) h)

-- ---- what the words ask for

is_exact : is_simple program ≡ true
unfolding clap_on_literals
is_exact = refl

-- words without fault call for the replay or for a free run
abbrev IsOurs : Text × List Row → Type 0
IsOurs found = (found.0 ≡ codes "replay") ⊎ (found.0 ≡ codes "free")

ours : (words : List Text) → faults_of words ≡ [] → IsSomeAnd (subcommand_of program words) IsOurs
unfolding faults_of
ours words e = accepted (built program) _ _ _ (argument_words program words) refl refl refl refl refl e

replay_at : (found : Option (Text × List Row)) → IsSomeAnd found IsOurs → (option_map (λ p. p.0) found ≡ Some (codes "free") → ⊥) →
    option_and_then (λ p. call_at p.0 p.1) found ≡ Some (Ok Replay)
replay_at None own other = absurd own
replay_at (Some p) (inl e) other = rw e refl
replay_at (Some p) (inr e) other = absurd (other (ap Some e))

free_at : (found : Option (Text × List Row)) (rows : List Row) → option_map (λ p. p.0) found ≡ Some (codes "free") →
    option_map (λ p. p.1) found ≡ Some rows
    → option_and_then (λ p. call_at p.0 p.1) found ≡ Some (freely (options_of rows))
free_at None rows named has = absurd (cc)
free_at (Some p) rows named has = grind (arith, nat_tests)

named_found : (m : ArgMatches) → option_map (λ p. p.0) (subcommand_rows_of m) ≡ subcommand_name_of m
named_found m = go (out-ArgMatches m).subcommand
  where
    go : (o : Option (Box SubCommand Global)) → option_map (λ p. p.0) (subcommand_rows o)
        ≡ option_map (λ b. (out-SubCommand (box_value b)).name.now) o
    go None = refl
    go (Some b) = refl

found_is : (app : App) (words : List Text) (m : ArgMatches) → app ≡ program → HasMatchesOf app words m →
    subcommand_rows_of m ≡ subcommand_of program words
found_is app words m e h = (h (ap is_simple e ∙ is_exact)).1 ∙ ap (λ a. subcommand_of a words) e

pub replay_called : (app : App) (words : List Text) (m : ArgMatches) → app ≡ program → HasMatchesOf app words m → fault_of app words ≡ [] →
    (subcommand_name_of m ≡ Some (codes "free") → ⊥)
    → call_of words ≡ Some (Ok Replay)
unfolding call_of
replay_called app words m e h passes other =
    let found : subcommand_rows_of m ≡ subcommand_of program words = found_is app words m e h in
    replay_at (subcommand_of program words) (ours words (no_faults app words e passes))
    (λ named. other (sym (named_found m) ∙ (ap (option_map (λ p. p.0)) found ∙ named)))

pub free_called : (app : App) (words : List Text) (m : ArgMatches) (rows : List Row) → app ≡ program → HasMatchesOf app words m →
    subcommand_name_of m ≡ Some (codes "free")
    → option_map (λ p. p.1) (subcommand_rows_of m) ≡ Some rows → call_of words ≡ Some (freely (options_of rows))
unfolding call_of
free_called app words m rows e h named has =
    let found : subcommand_rows_of m ≡ subcommand_of program words = found_is app words m e h in
    free_at (subcommand_of program words) rows (sym (ap (option_map (λ p. p.0)) found) ∙ (named_found m ∙ named))
    (sym (ap (option_map (λ p. p.1)) found) ∙ has)

-- what is told of an option where clap accepts the words
pub told_kind : (kinds : Kinds) (line : Text) (fault : LineFault) → kinds ≡ [] → IsTold line fault → IsOfKind kinds fault
told_kind kinds line (Clap error) none told = absurd told
told_kind kinds line (Range text) none told = none
told_kind kinds line Memory none told = tt

pub told_range : (words : List Text) (line : Text) (fault : LineFault) → call_of words ≡ Some (Err line) → IsTold line fault →
    IsRangeOf words fault
told_range words line (Clap error) is told = absurd told
told_range words line (Range text) is told = is ∙ ap (λ (l : Text). Some (Err l)) (sym told)
told_range words line Memory is told = tt

replay_named : (name : Text) → option_map (λ p. p.0) (subcommand_of program (name ∷ codes "replay" ∷ [])) ≡ Some (codes "replay")
unfolding clap_on_literals
replay_named name = refl

-- the one word `replay` calls for no free run
pub replay_only : (app : App) (words : List Text) (m : ArgMatches) (name : Text) → app ≡ program → HasMatchesOf app words m →
    words ≡ name ∷ codes "replay" ∷ [] → subcommand_name_of m ≡ Some (codes "free") → ⊥
replay_only app words m name e h are named =
    let found : subcommand_rows_of m ≡ subcommand_of program words = found_is app words m e h in
    let both : Some (codes "replay") ≡ Some (codes "free") =
    sym (replay_named name) ∙ (ap (λ ws. option_map (λ p. p.0) (subcommand_of program ws)) (sym are)
    ∙ (sym (ap (option_map (λ p. p.0)) found) ∙ (named_found m ∙ named))) in
    cc

-- ---- the file

pub file_named : (found : Option (Text × List Row)) (rows : List Row) → option_map (λ p. p.0) found ≡ Some (codes "replay") →
    option_map (λ p. p.1) found ≡ Some rows → file_in found ≡ unwrap_or (first_of (codes "file") rows) (codes "-")
file_named None rows named has = absurd (cc)
file_named (Some p) rows named has = grind (arith, nat_tests)

file_by : (name : Text) (rows : List Row) (b : Bool) → bytes_eq name (codes "replay") ≡ b → (name ≡ codes "replay" → ⊥) →
    (if b then unwrap_or (first_of (codes "file") rows) (codes "-") else codes "-") ≡ codes "-"
file_by name rows true is other = absurd (other (grind (arith, nat_tests, bytes_eq-Decides name (codes "replay"))))
file_by name rows false is other = refl

pub file_other : (found : Option (Text × List Row)) → (option_map (λ p. p.0) found ≡ Some (codes "replay") → ⊥) →
    file_in found ≡ codes "-"
file_other None other = refl
file_other (Some p) other = file_by p.0 p.1 (bytes_eq p.0 (codes "replay")) refl (λ same. other (ap Some same))

pub file_found : (app : App) (words : List Text) (m : ArgMatches) → app ≡ program → HasMatchesOf app words m →
    file_in (subcommand_rows_of m) ≡ file_of words
unfolding file_of
file_found app words m e h = ap file_in (found_is app words m e h)

-- the name of what clap found
pub same_name : (m : ArgMatches) → option_map (λ p. p.0) (subcommand_rows_of m) ≡ subcommand_name_of m
same_name m = named_found m

-- a free run is about no file
pub free_file : (app : App) (words : List Text) (m : ArgMatches) → app ≡ program → HasMatchesOf app words m →
    subcommand_name_of m ≡ Some (codes "free") → codes "-" ≡ file_of words
free_file app words m e h named =
    sym (file_other (subcommand_rows_of m) (λ same. let both : Some (codes "replay") ≡ Some (codes "free") =
    sym same ∙ (named_found m ∙ named) in cc both)) ∙ file_found app words m e h

-- ---- commands as they are built

-- the subcommand has no global argument, as its shape tells
pub with_command : (old sub new : Command) (app below : App) → AddsSubcommand old sub new → below.top.is_plain ≡ true → app_of old ≡ app →
    app_of sub ≡ below → app_of new ≡ with_subcommand app below.top
with_command old sub new app below adds plain old_is sub_is = grind (arith, nat_tests)
