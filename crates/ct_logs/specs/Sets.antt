-- What sets of logs hold.
use Rattle.std.specs.Prelude.{◌≡◌, ◌≢◌, ℕ, ◌-◌, ◌≤◌, ◌<◌, max, true, List, [], Option, Some, None, map, slice_get, take, unwrap_or}
use Rattle.std.specs.Global.{Vec}
use Rattle.ct_names.specs.Group.{is_member}
use Rattle.ct_names.specs.declared.limit.TheConstants.{MAX_BOUND, MAX_MEMBERS}
use Rattle.ct_model.specs.When.{when}
use Rattle.ct_world.specs.declared.setup.Setup.{Setup}
use Rattle.ct_judging.specs.declared.heading.TheConstants.{USUAL_CELLS}
use Rattle.ct_merge.specs.Expected.{Expecting, expected_of}
use Rattle.ct_merge.specs.Logs.{log_of}
use Rattle.ct_merge.specs.Numbers.{agrees}
use Rattle.ct_merge.specs.Proposers.{line_in}
use Rattle.ct_merge.specs.declared.log_line.LogLine.{LogLine}
use Rattle.ct_merge.specs.declared.numbers.Numbers.{Numbers}
use Rattle.ct_logs.specs.Groups.{Logs}
use Rattle.ct_logs.specs.Owners.{IsSaid, Said}
use Rattle.ct_logs.specs.declared.group_numbers.GroupNumbers.{GroupNumbers}

-- the logs of members, each in its member's place: the numbers of the group that were given, the last member that has a log, of each
-- member the place of its file, its lines, and what is expected of it
pub record LogsSoFar : Type 0 where
  pub numbers : GroupNumbers
  pub last : ℕ
  pub files : List (Option ℕ)
  pub logs : List (Vec LogLine)
  pub expected : List Expecting

-- what is in p's place; the first one is member 1's
abbrev pub slot : {A : Type 0} → List A → ℕ → Option A
slot items p = slice_get items (p - 1)

-- the place of a log's file, if it has one
abbrev pub file_in : Option (Option ℕ) → Option ℕ
file_in None = None
file_in (Some file) = file

-- p's log is in the file at this place
abbrev pub IsFiled : LogsSoFar → ℕ → ℕ → Type 0
IsFiled s p file = slot s.files p ≡ Some (Some file)

-- p's log has no line, and expects nothing
pub record IsBare (s : LogsSoFar) (p : ℕ) : Type 0 where
  pub lines : log_of s.logs p ≡ []
  pub expected : expected_of s.expected p ≡ []

-- each of these logs has first lines of the other one's, or all
abbrev pub AreFirstLines : List (Vec LogLine) → List (Vec LogLine) → Type 0
AreFirstLines first lines = (p : ℕ) → (count : ℕ) × (log_of first p ≡ take count (log_of lines p))

-- ---- one log more

-- a number of the group, with the one that a log gives. None: another was given
abbrev pub joined : Option ℕ → Option ℕ → Option (Option ℕ)
joined old None = Some old
joined old (Some n) = when (agrees old n) (Some n)

pub record AreJoined (old : GroupNumbers) (given : Numbers) (new : GroupNumbers) : Type 0 where
  pub members : joined old.members given.members ≡ Some new.members
  pub cells : joined old.cells given.cells ≡ Some new.cells
  pub batch : joined old.batch given.batch ≡ Some new.batch

-- p can be one of the group's, and has no log in another file than the one at this place
pub record IsOpen (files : List (Option ℕ)) (file p : ℕ) : Type 0 where
  pub some : 1 ≤ p
  pub most : p ≤ MAX_MEMBERS
  pub free : (other : ℕ) → slot files p ≡ Some (Some other) → other ≡ file

-- p's log is the one in the file at this place
pub record Claims (old : LogsSoFar) (file p : ℕ) (new : LogsSoFar) : Type 0 where
  pub open_to : IsOpen old.files file p
  pub last : new.last ≡ max old.last p
  pub filed : IsFiled new p file
  pub others : (q : ℕ) → 1 ≤ q → q ≢ p → slot new.files q ≡ slot old.files q

-- the log in the file at this place, which says this, can be taken: its member has no other one, and it gives no other numbers
pub record CanTake (s : LogsSoFar) (file : ℕ) (said : Said) : Type 0 where
  pub few : file < MAX_MEMBERS
  pub open_to : IsOpen s.files file said.member
  pub numbers : GroupNumbers
  pub joined : AreJoined s.numbers said.log.numbers numbers

-- it was taken
pub record Takes (old : LogsSoFar) (file : ℕ) (said : Said) (new : LogsSoFar) : Type 0 where
  pub few : file < MAX_MEMBERS
  pub claims : Claims old file said.member new
  pub numbers : AreJoined old.numbers said.log.numbers new.numbers
  pub lines : log_of new.logs said.member ≡ said.log.lines
  pub expected : expected_of new.expected said.member ≡ said.log.expected.list
  pub other_lines : (q : ℕ) → 1 ≤ q → q ≢ said.member → log_of new.logs q ≡ log_of old.logs q
  pub other_expected : (q : ℕ) → 1 ≤ q → q ≢ said.member → expected_of new.expected q ≡ expected_of old.expected q

-- ---- the first texts

-- the number is the one that the first texts give; None where none does
pub record IsGivenIn (texts : List (List ℕ)) (count : ℕ) (number : Numbers → Option ℕ) (given : Option ℕ) : Type 0 where
  pub each : (i : ℕ) (said : Said) (n : ℕ) → i < count → IsSaid texts i said → number said.log.numbers ≡ Some n → given ≡ Some n
  pub some : (n : ℕ) → given ≡ Some n →
      (i : ℕ) × (said : Said) × (i < count) × IsSaid texts i said × (number said.log.numbers ≡ Some n)

-- the same of the last member that has a log in one of them
pub record IsLastIn (texts : List (List ℕ)) (count p : ℕ) : Type 0 where
  pub within : (i : ℕ) (said : Said) → i < count → IsSaid texts i said → said.member ≤ p
  pub is : p ≢ 1 → (i : ℕ) × (said : Said) × (i < count) × IsSaid texts i said × (said.member ≡ p)

-- the log in the text at this place is in its member's place
pub record IsTakenAt (texts : List (List ℕ)) (s : LogsSoFar) (i : ℕ) : Type 0 where
  pub said : Said
  pub is : IsSaid texts i said
  pub some : 1 ≤ said.member
  pub most : said.member ≤ MAX_MEMBERS
  pub filed : IsFiled s said.member i
  pub lines : log_of s.logs said.member ≡ said.log.lines
  pub expected : expected_of s.expected said.member ≡ said.log.expected.list

-- it is in the text at this place, of the first ones
pub record IsFrom (texts : List (List ℕ)) (count p i : ℕ) : Type 0 where
  pub within : i < count
  pub said : Said
  pub is : IsSaid texts i said
  pub member : said.member ≡ p

-- so many first texts were taken, and no other log
pub record HasTaken (texts : List (List ℕ)) (count : ℕ) (s : LogsSoFar) : Type 0 where
  pub few : count ≤ MAX_MEMBERS
  pub each : (i : ℕ) → i < count → IsTakenAt texts s i
  pub files : (p i : ℕ) → 1 ≤ p → IsFiled s p i → IsFrom texts count p i
  pub others : (p : ℕ) → 1 ≤ p → ((i : ℕ) → IsFiled s p i → ⊥) → IsBare s p
  pub members : IsGivenIn texts count (λ given. given.members) s.numbers.members
  pub cells : IsGivenIn texts count (λ given. given.cells) s.numbers.cells
  pub batch : IsGivenIn texts count (λ given. given.batch) s.numbers.batch
  pub some : 1 ≤ s.last
  pub last : IsLastIn texts count s.last

-- ---- the group

-- a group with these logs is made with this
pub record IsSetupOf (s : LogsSoFar) (setup : Setup) : Type 0 where
  pub some : 1 ≤ setup.group
  pub most : setup.group ≤ MAX_MEMBERS
  pub members : setup.group ≡ unwrap_or s.numbers.members s.last
  pub cells : setup.cells ≡ unwrap_or s.numbers.cells USUAL_CELLS
  pub batch : setup.bound ≡ unwrap_or s.numbers.batch MAX_BOUND
  pub last : s.last ≤ setup.group

-- these are the logs of the members of that group, with the senders of proposals named
pub record AreLogsOf (s : LogsSoFar) (logs : Logs) : Type 0 where
  pub setup : IsSetupOf s logs.setup
  pub lines : (p : ℕ) → is_member logs.setup.group p ≡ true →
      log_of logs.lines p ≡ map (line_in logs.setup.group) (log_of s.logs p)
  pub expected : (p : ℕ) → is_member logs.setup.group p ≡ true → expected_of logs.expected p ≡ expected_of s.expected p
