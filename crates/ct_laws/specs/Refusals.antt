-- Where a schedule is refused.
use Rattle.std.specs.Prelude.{◌≡◌, ◌⊎◌, ℕ, ◌+◌, List, ◌∷◌, ◌++◌, length, Ok, Err}
use Rattle.ct_play.specs.declared.line_fault.LineFault.TheVariants.{NoMembers}
use Rattle.ct_judging.specs.Schedule.{Progress, Stopped, after_line, after_lines, beginning}
use Rattle.ct_judging.specs.Standing.{world_of}

-- the lines before one are taken, and that one is not, with this fault
pub record IsRefusedAt (start : Progress) (lines : List (List ℕ)) (stopped : Stopped) : Type 0 where
  pub before : List (List ℕ)
  pub line : List ℕ
  pub later : List (List ℕ)
  pub is : lines ≡ before ++ line ∷ later
  pub there : Progress
  pub taken : after_lines start before ≡ Ok there
  pub refused : after_line there line ≡ Err stopped
  pub at : stopped.at ≡ start.number + length before + 1

-- all lines are taken, and none says how many members there are
pub record HasNoMembers (lines : List (List ℕ)) (stopped : Stopped) : Type 0 where
  pub there : Progress
  pub taken : after_lines beginning lines ≡ Ok there
  pub none : world_of there.standing ≡ Err NoMembers
  pub fault : stopped.fault ≡ NoMembers
  pub at : stopped.at ≡ length lines

-- the same of a whole schedule
abbrev pub IsRefused : List (List ℕ) → Stopped → Type 0
IsRefused lines stopped = IsRefusedAt beginning lines stopped ⊎ HasNoMembers lines stopped
