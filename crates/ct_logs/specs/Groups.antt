-- The logs of a group.
use Rattle.std.specs.Prelude.{◌≡◌, ◌≢◌, ℕ, ◌≤◌, ◌<◌, true, List, [], Option, Some, None, length, map}
use Rattle.std.specs.Global.{Vec}
use Rattle.ct_names.specs.Group.{is_member}
use Rattle.ct_names.specs.declared.limit.TheConstants.{MAX_BOUND, MAX_MEMBERS}
use Rattle.ct_world.specs.declared.setup.Setup.{Setup}
use Rattle.ct_judging.specs.declared.heading.TheConstants.{USUAL_CELLS}
use Rattle.ct_merge.specs.Expected.{Expecting, expected_of}
use Rattle.ct_merge.specs.Logs.{log_of}
use Rattle.ct_merge.specs.Proposers.{line_in}
use Rattle.ct_merge.specs.declared.log_line.LogLine.{LogLine}
use Rattle.ct_merge.specs.declared.numbers.Numbers.{Numbers}
use Rattle.ct_logs.specs.Files.{AreTextsIn, Known}
use Rattle.ct_logs.specs.Owners.{IsSaid, Said}

-- ---- the numbers of the group

-- each log that gives the number gives this one
abbrev pub AllGive : List (List ℕ) → (Numbers → Option ℕ) → ℕ → Type 0
AllGive texts number n = (i : ℕ) (said : Said) (m : ℕ) → IsSaid texts i said → number said.log.numbers ≡ Some m → n ≡ m

-- no log gives it
abbrev pub NoneGives : List (List ℕ) → (Numbers → Option ℕ) → Type 0
NoneGives texts number = (i : ℕ) (said : Said) → IsSaid texts i said → number said.log.numbers ≡ None

-- the number is the one that logs give, or the usual one where none does
pub record IsNumber (texts : List (List ℕ)) (number : Numbers → Option ℕ) (n usual : ℕ) : Type 0 where
  pub all : AllGive texts number n
  pub none : NoneGives texts number → n ≡ usual

-- this is the last member that has a log; the first where none has
pub record IsLast (texts : List (List ℕ)) (p : ℕ) : Type 0 where
  pub within : (i : ℕ) (said : Said) → IsSaid texts i said → said.member ≤ p
  pub is : p ≢ 1 → (i : ℕ) × (said : Said) × IsSaid texts i said × (said.member ≡ p)

-- the text at this place is the log of a member of the group
pub record IsLogIn (texts : List (List ℕ)) (n i : ℕ) : Type 0 where
  pub said : Said
  pub is : IsSaid texts i said
  pub member : is_member n said.member ≡ true

-- the texts are logs of a group that is made with this: of its members, no two of the same one, which agree on its numbers
pub record IsGroupOf (texts : List (List ℕ)) (setup : Setup) : Type 0 where
  pub few : length texts ≤ MAX_MEMBERS
  pub some : 1 ≤ setup.group
  pub most : setup.group ≤ MAX_MEMBERS
  pub each : (i : ℕ) → i < length texts → IsLogIn texts setup.group i
  pub once : (i j : ℕ) (said other : Said) → IsSaid texts i said → IsSaid texts j other → said.member ≡ other.member → i ≡ j
  pub members : AllGive texts (λ given. given.members) setup.group
  pub last : NoneGives texts (λ given. given.members) → IsLast texts setup.group
  pub cells : IsNumber texts (λ given. given.cells) setup.cells USUAL_CELLS
  pub batch : IsNumber texts (λ given. given.batch) setup.bound MAX_BOUND

-- they are logs of no group
abbrev pub AreNoLogs : List (List ℕ) → Type 0
AreNoLogs texts = (setup : Setup) → IsGroupOf texts setup → ⊥

-- ---- its logs

-- the logs of a group, member 1's first: what it is made with, the lines of each, and what each expects
pub record Logs : Type 0 where
  pub setup : Setup
  pub lines : List (Vec LogLine)
  pub expected : List Expecting

-- p's log has the lines that this says, in the group, and expects what this does
pub record HasSaid (logs : Logs) (said : Said) : Type 0 where
  pub lines : log_of logs.lines said.member ≡ map (line_in logs.setup.group) said.log.lines
  pub expected : expected_of logs.expected said.member ≡ said.log.expected.list

-- p's log has no line, and expects nothing
pub record HasNothing (logs : Logs) (p : ℕ) : Type 0 where
  pub lines : log_of logs.lines p ≡ []
  pub expected : expected_of logs.expected p ≡ []

-- these are the logs of a group that the texts say; of a member that none is of, nothing
pub record AreLogsIn (texts : List (List ℕ)) (logs : Logs) : Type 0 where
  pub group : IsGroupOf texts logs.setup
  pub each : (i : ℕ) (said : Said) → IsSaid texts i said → HasSaid logs said
  pub others : (p : ℕ) → is_member logs.setup.group p ≡ true →
      ((i : ℕ) (said : Said) → IsSaid texts i said → said.member ≡ p → ⊥) → HasNothing logs p

-- the files of these names have these logs
pub record HaveLogs (bytes : Known) (names : List (List ℕ)) (logs : Logs) : Type 0 where
  pub texts : List (List ℕ)
  pub read : AreTextsIn bytes names texts
  pub said : AreLogsIn texts logs

-- the files of these names have logs of no group
pub record HaveNoLogs (bytes : Known) (names : List (List ℕ)) : Type 0 where
  pub texts : List (List ℕ)
  pub read : AreTextsIn bytes names texts
  pub none : AreNoLogs texts
