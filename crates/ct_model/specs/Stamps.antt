-- Which serials wait at a member, and in which order, read off all the steps: when each was sent, moved, taken out and put back.
use Rattle.std.specs.Prelude.{ℕ, suc, zero, ◌-◌, ◌<◌, ◌≡◌, Bool, true, false, not, ◌&&◌, ◌||◌, ◌==◌, nat_lt, if◌then◌else◌, List, [], ◌∷◌}
use Rattle.std.specs.Prelude.{length, take, is_some}
use Rattle.std.specs.Option.{option_map_or}
use Rattle.ct_model.specs.declared.step.Step.{Step}
use Rattle.ct_model.specs.declared.step.Step.TheVariants.{Receive, Postpone, Lose, Repeat}
use Rattle.ct_model.specs.State.{at_serial}
use Rattle.ct_model.specs.Next.{wire_to}
use Rattle.ct_model.specs.Waiting.{has_serial}
use Rattle.ct_model.specs.Rehearsal.{Rehearsal, state_of}

-- the last of the numbers 1 to n that passes the test, 0 where none does
abbrev pub last_passing : (ℕ → Bool) → ℕ → ℕ
last_passing test zero = zero
last_passing test (suc before) = if test (suc before) then suc before else last_passing test before

-- the step of this number passes the test; the first one's is 1
abbrev pub is_step : (Step → Bool) → List Step → ℕ → Bool
is_step test steps n = option_map_or test (at_serial steps n) false

-- the step: p receives the serial, or loses it
abbrev pub removes : ℕ → ℕ → Step → Bool
removes p k (Receive q i) = (q == p) && (i == k)
removes p k (Lose q i) = (q == p) && (i == k)
removes p k _ = false

-- the serial is postponed at p
abbrev pub postpones : ℕ → ℕ → Step → Bool
postpones p k (Postpone q i) = (q == p) && (i == k)
postpones p k _ = false

-- the serial is repeated at p
abbrev pub repeats : ℕ → ℕ → Step → Bool
repeats p k (Repeat q i) = (q == p) && (i == k)
repeats p k _ = false

-- p received or lost the serial, and it wasn't repeated there since
unfoldable pub is_gone : Rehearsal → ℕ → ℕ → Bool
is_gone w p k = nat_lt (last_passing (is_step (repeats p k) w.steps) (length w.steps))
    (last_passing (is_step (removes p k) w.steps) (length w.steps))

-- the record's first steps, this many
abbrev pub beginning : Rehearsal → ℕ → Rehearsal
beginning w n = record w { steps = take n w.steps }

-- the serial was sent to p
abbrev pub is_sent : Rehearsal → ℕ → ℕ → Bool
is_sent w p k = is_some (wire_to (state_of w) p k)

-- the step of this number sent it to p
abbrev pub sends : Rehearsal → ℕ → ℕ → ℕ → Bool
sends w p k n = is_sent (beginning w n) p k && not (is_sent (beginning w (n - 1)) p k)

-- the number of the last step that sent the serial to p, postponed it there, or repeated it there
unfoldable pub stamp : Rehearsal → ℕ → ℕ → ℕ
stamp w p k = last_passing
    (λ n. sends w p k n || is_step (postpones p k) w.steps n || is_step (repeats p k) w.steps n) (length w.steps)

-- of each two serials in the list the one in front has the smaller number
abbrev pub IsRising : (ℕ → ℕ) → List ℕ → Type 0
IsRising number [] = Unit {0}
IsRising number (k ∷ later) = ((i : ℕ) → has_serial i later ≡ true → number k < number i) × IsRising number later
