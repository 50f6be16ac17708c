-- Why telling a schedule stops.
use Rattle.std.specs.Prelude.{◌≡◌, ⊤, Result, Err, string_bytes}
use Rattle.ct_judging.specs.Standing.{Standing}
use Rattle.ct_judging.specs.Telling.{Explained}
use Rattle.ct_judge.specs.declared.stop.Stop.{Stop}
use Rattle.ct_judge.specs.declared.stop.Stop.TheVariants.{Told, Memory, BoardRefused}

-- the fault is the line's, and this is its text; nothing is said where memory or the board refused
abbrev pub IsStopOf : Result Standing Explained → Stop → Type 0
IsStopOf r (Told fault text) = r ≡ Err (record { fault = fault; text = string_bytes text })
IsStopOf r Memory = ⊤
IsStopOf r BoardRefused = ⊤

-- a line that is refused changes nothing
abbrev pub IsStopKept : Standing → Standing → Stop → Type 0
IsStopKept old new (Told fault text) = new ≡ old
IsStopKept old new Memory = ⊤
IsStopKept old new BoardRefused = ⊤
