-- Texts without control bytes.
use Rattle.std.specs.Prelude.{ℕ, ◌==◌, ◌||◌, nat_lt, List, map, if◌then◌else◌}

-- a blank for one that parts words, a question mark for another control byte
abbrev pub printed_byte : ℕ → ℕ
printed_byte b = if (b == 9) || (b == 13) then 32 else if nat_lt b 32 || (b == 127) then 63 else b

-- the text as it may be written to a terminal
unfoldable pub printed : List ℕ → List ℕ
printed text = map printed_byte text
