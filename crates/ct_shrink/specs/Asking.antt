-- What the trials of a run keep.
use Rattle.std.specs.Prelude.{◌≡◌, ℕ, ◌<◌, ◌≤◌, false, All, List, IfSome, IsSome, length, option_map, remove, if◌then◌else◌}
use Rattle.ct_shrink.specs.Naming.{IsByContent}
use Rattle.ct_shrink.specs.Shrinking.{Shrinking}
use Rattle.ct_shrink.specs.declared.line.Line.{Line}
use Rattle.ct_shrink.specs.declared.trials.Trials.TheInside.{Inside}

-- what contracts see: a pass that made the run smaller settled nothing
abbrev pub shrinking_of : Inside → Shrinking
shrinking_of t = record {
  lines = t.lines.items;
  asked = option_map (λ lines. lines.items) t.asked;
  settled = if t.is_smaller then 0 else t.place;
  made = t.made;
  most = t.most;
}

-- the candidate has fewer lines than the run; where no moves are left, it is the run without the line at the place
pub record IsCandidate (lines : List Line) (moves place : ℕ) (candidate : List Line) : Type 0 where
  pub named : All IsByContent candidate
  pub fewer : length candidate < length lines
  pub within : moves ≡ 0 → place < length lines
  pub without : moves ≡ 0 → candidate ≡ remove lines place

pub record IsOnItsWay (t : Inside) : Type 0 where
  pub named : All IsByContent t.lines.items
  pub few : t.made ≤ t.most
  pub within : t.is_smaller ≡ false → t.place ≤ length t.lines.items
  pub moving : 0 < length t.moves.items → t.place ≡ 0
  pub may : IsSome t.asked → t.made < t.most
  pub asked : IfSome t.asked (λ lines. IsCandidate t.lines.items (length t.moves.items) t.place lines.items)
