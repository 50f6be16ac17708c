-- Questions.
use Rattle.std.specs.Prelude.{ℕ, length, List, Result, Ok, Err, codes, if◌then◌else◌}
use Rattle.std.specs.Str.{bytes_eq}
use Rattle.ct_grammar.specs.declared.question.Question.{Question}
use Rattle.ct_grammar.specs.declared.question.Question.TheVariants.{Enabled, Next, State, Waiting, Report, Record, Limits}
use Rattle.ct_grammar.specs.declared.unfit.Unfit.{Unfit}
use Rattle.ct_grammar.specs.declared.unfit.Unfit.TheVariants.{Word as Other}
use Rattle.ct_grammar.specs.declared.wanted.Wanted.TheVariants.{Member, Nothing, Beginning}
use Rattle.ct_grammar.specs.Words.{Word}
use Rattle.ct_grammar.specs.Unfits.{◌>>=◌, map_ok}
use Rattle.ct_grammar.specs.Leading.{member_first, over}

-- a member, alone
unfoldable pub lone_member : List Word → Result ℕ Unfit
lone_member words = do
  r ← member_first Member words
  _ ← over Nothing r.1
  Ok r.0

-- this, where no words stand there
abbrev pub alone : {A : Type 0} → A → List Word → Result A Unfit
alone answer words = map_ok (λ _. answer) (over Nothing words)

-- a question of the whole run; other words begin no line
unfoldable pub short_question : Word → List Word → Result Question Unfit
short_question name words =
    if bytes_eq name (codes "report") then alone Report words else (
    if bytes_eq name (codes "record") then alone Record words else (
    if bytes_eq name (codes "limits") then alone Limits words else Err (Other (length words) Beginning)))

-- a question of a member, or of the whole run
unfoldable pub question_of : Word → List Word → Result Question Unfit
question_of name words =
    if bytes_eq name (codes "enabled") then map_ok Enabled (lone_member words) else (
    if bytes_eq name (codes "next") then map_ok Next (lone_member words) else (
    if bytes_eq name (codes "state") then map_ok State (lone_member words) else (
    if bytes_eq name (codes "waiting") then map_ok Waiting (lone_member words) else short_question name words)))
