-- The faults of lines.
use Rattle.std.specs.Prelude.{Bool, true, false, ◌≡◌, Result, Err, ⊤}
use Rattle.ct_play.specs.declared.line_fault.LineFault.{LineFault}
use Rattle.ct_play.specs.declared.line_fault.LineFault.TheVariants.{OutOfMemory, Board}

-- the fault tells of memory or of the board, not of the line
abbrev pub is_short : LineFault → Bool
is_short OutOfMemory = true
is_short Board = true
is_short _ = false

-- want of memory, or of the board
abbrev pub IsShort : LineFault → Type 0
IsShort fault = is_short fault ≡ true

-- the fact, where nothing is short
abbrev pub UnlessShort : Bool → Type 0 → Type 0
UnlessShort true fact = ⊤
UnlessShort false fact = fact

-- where something comes to this, it may have this fault: its own, or want of memory or of the board, of which nothing is said
abbrev pub IsFaultOf : {A : Type 0} → Result A LineFault → LineFault → Type 0
IsFaultOf r fault = UnlessShort (is_short fault) (r ≡ Err fault)

-- after this fault all is as it was; nothing is said where memory or the board refused
abbrev pub IsKept : {A : Type 0} → A → A → LineFault → Type 0
IsKept old new fault = UnlessShort (is_short fault) (new ≡ old)
