-- The waiting lines of all members.
use Rattle.std.specs.Prelude.{ℕ, ◌<◌, ◌≤◌, List, length, map, slice_index_or}
use Rattle.ct_network.specs.WaitingLine.{WaitingLine}

-- the serials that wait at each member
abbrev pub serials_of : List WaitingLine → List (List ℕ)
serials_of lines = map (λ line. line.serials) lines

-- at least so many more serials can join each of the first n lines without memory
abbrev pub HaveFirstRoom : ℕ → List WaitingLine → ℕ → Type 0
HaveFirstRoom n lines least = (i : ℕ) (line : WaitingLine) → i < n → least ≤ (slice_index_or lines i line).room

-- at least so many more serials can join each line without memory
abbrev pub HaveRoom : List WaitingLine → ℕ → Type 0
HaveRoom lines least = HaveFirstRoom (length lines) lines least
