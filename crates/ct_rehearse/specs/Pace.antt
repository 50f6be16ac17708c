-- How the workers of a run keep in step.
use Rattle.std.specs.Prelude.{ℕ, ◌+◌, ◌*◌, Bool, false, not, ◌&&◌, ◌||◌, nat_eq, nat_lt, List, [], ◌∷◌, Option, Some, None, min}
use Rattle.ct_rehearse.specs.declared.patience.Patience.{Patience}

-- what a worker shows that has made so many turns
abbrev pub mark_of : ℕ → ℕ
mark_of turns = 2 * turns

-- what it shows while its gate is called after so many turns
abbrev pub mark_at_gate : ℕ → ℕ
mark_at_gate turns = 2 * turns + 1

-- the mark of a worker for which nobody waits: it was not started, or has made its turns
abbrev pub gone : ℕ
gone = 18446744073709551615

-- the least of the marks, that of the slowest worker
unfoldable pub least_of : List ℕ → ℕ
least_of [] = gone
least_of (mark ∷ marks) = min mark (least_of marks)

-- the number is that mark
abbrev pub is_held : Option ℕ → ℕ → Bool
is_held None mark = false
is_held (Some held) mark = nat_eq held mark

-- a worker that shows one mark waits for the slowest worker, which shows the other, and with whose gate its patience has not ended
abbrev pub waits : Option ℕ → ℕ → ℕ → Bool
waits held made least = nat_lt least made && not (is_held held least)

-- it need not wait for the slowest worker as it saw it last, or it gave way as often as it does before a turn
abbrev pub goes_on : Patience → ℕ → Bool
goes_on patience made = not (waits patience.held made patience.seen) || nat_eq patience.left 0
