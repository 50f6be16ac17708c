-- Logs whose ends may be lost.
use Rattle.std.specs.Prelude.{◌≡◌, ℕ, true, List, length, take}
use Rattle.std.specs.Global.{Vec}
use Rattle.std.specs.List.{AllZip}
use Rattle.ct_names.specs.Group.{is_member}
use Rattle.ct_model.specs.Rehearsal.{Rehearsal}
use Rattle.ct_merge.specs.Logs.{IsTold, log_of, own}
use Rattle.ct_merge.specs.declared.log_line.LogLine.{LogLine}

-- p's first own steps in the record are those of these lines, in order; behind them it may have more
abbrev pub OpensWith : Rehearsal → ℕ → List LogLine → Type 0
OpensWith w p lines = AllZip IsTold (take (length lines) (own w p)) lines

-- each member's first own steps in the record are those of its log, in order, as named and as stated
abbrev pub AllOpenWith : Rehearsal → List (Vec LogLine) → Type 0
AllOpenWith w logs = (p : ℕ) → is_member w.setting.members p ≡ true → OpensWith w p (log_of logs p)
