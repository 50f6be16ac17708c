-- Runs that get smaller trial by trial, whoever makes the trials.
use Rattle.std.specs.Prelude.{⊤, ℕ, ◌<◌, ◌≤◌, Bool, ◌&&◌, ◌||◌, is_some, nat_lt, List, [], Option, Some, None, length, remove, if◌then◌else◌}
use Rattle.ct_shrink.specs.declared.line.Line.{Line}

-- the smallest run so far; the lines whose trial is asked for; so many of its first lines were left out in vain; how many trials
-- were made, and how many may be
pub record Shrinking : Type 0 where
  pub lines : List Line
  pub asked : Option (List Line)
  pub settled : ℕ
  pub made : ℕ
  pub most : ℕ

-- before the first trial
abbrev pub first_shrinking : List Line → ℕ → Shrinking
first_shrinking lines most = record { lines = lines; asked = None; settled = 0; made = 0; most = most }

-- a trial is asked for, or will be: more may be made, and lines are left that were not left out in vain
abbrev pub asks : Shrinking → Bool
asks s = is_some s.asked || (nat_lt s.made s.most && nat_lt s.settled (length s.lines))

-- these lines, if any
abbrev pub lines_of : Option (List Line) → List Line
lines_of None = []
lines_of (Some lines) = lines

-- what a trial left, where that has fewer lines than the run; else the run
abbrev pub smaller : List Line → Option (List Line) → List Line
smaller lines None = lines
smaller lines (Some kept) = if nat_lt (length kept) (length lines) then kept else lines

-- a trial fails, or leaves no fewer lines than so many
abbrev pub IsNoSmaller : Option (List Line) → ℕ → Type 0
IsNoSmaller None count = ⊤
IsNoSmaller (Some lines) count = count ≤ length lines

-- the trial without any one of so many first lines leaves no fewer lines
abbrev pub IsVain : (List Line → Option (List Line)) → List Line → ℕ → Type 0
IsVain trial lines count = (i : ℕ) → i < count → IsNoSmaller (trial (remove lines i)) (length lines)

-- so it is with those that were left out
abbrev pub Agrees : (List Line → Option (List Line)) → Shrinking → Type 0
Agrees trial s = IsVain trial s.lines s.settled

-- so it is with all lines
abbrev pub IsLeastBy : (List Line → Option (List Line)) → List Line → Type 0
IsLeastBy trial lines = IsVain trial lines (length lines)
