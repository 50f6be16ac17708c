-- What is true of every record that a world keeps.
use Rattle.std.specs.Prelude.{◌≡◌, ℕ, ◌-◌, ◌<◌, ◌≤◌, Bool, true, false, not, ◌&&◌, List, [], ◌∷◌, length, slice_get}
use Rattle.std.specs.Prelude.{is_some, None, Some}
use Rattle.ct_names.specs.declared.limit.TheConstants.{MAX_ENVELOPES, MAX_INSTANCES, MAX_ROUNDS, MAX_STEPS, MAX_SUBMISSIONS}
use Rattle.ct_names.specs.Group.{is_member}
use Rattle.ct_model.specs.declared.step.Step.{Step}
use Rattle.ct_model.specs.AtValue.{Envelope}
use Rattle.ct_model.specs.Setting.{Setting}
use Rattle.ct_model.specs.State.{State, member, is_crashed, submissions}
use Rattle.ct_model.specs.Next.{wire_to}
use Rattle.ct_model.specs.Run.{run}
use Rattle.ct_model.specs.Waiting.{has_serial, serials_to, LineChange, line_change}
use Rattle.ct_model.specs.Waiting.LineChange.{Takes, Defers, Restores, Leaves}
use Rattle.ct_model.specs.Rehearsal.{Rehearsal, first_steps, state_of, line_of}
use Rattle.ct_model.specs.Stamps.{is_gone, stamp, IsRising}
use Rattle.ct_model.specs.Cause.{cause, round_of, order}

-- no number stands twice
abbrev pub is_distinct : List ℕ → Bool
is_distinct [] = true
is_distinct (k ∷ line) = not (has_serial k line) && is_distinct line

-- no limit is passed
pub record IsWithin (cells : ℕ) (g : State) (steps : ℕ) : Type 0 where
  pub few_submissions : (p : ℕ) → submissions g.submitted p ≤ MAX_SUBMISSIONS
  pub few_instances : (p : ℕ) → (member g p).last ≤ MAX_INSTANCES
  pub few_rounds : (p : ℕ) → round_of (member g p) ≤ MAX_ROUNDS
  pub few_envelopes : length g.sent ≤ MAX_ENVELOPES
  pub few_batches : length (order g) ≤ cells
  pub few_steps : steps ≤ MAX_STEPS

-- each of so many first steps had no cause to be refused after those before it
abbrev pub AllowsFirst : Setting → ℕ → List Step → ℕ → Type 0
AllowsFirst s cells steps count = (k : ℕ) (step : Step) → k < count → slice_get steps k ≡ Some step →
    cause (first_steps s cells steps k) step ≡ None

-- each step of the record was allowed where it stands
abbrev pub EachWasAllowed : Rehearsal → Type 0
EachWasAllowed w = AllowsFirst w.setting w.cells w.steps (length w.steps)

-- the record is a run that ends in its state, within the limits, each step of which was allowed where it stands; and what
-- holds of its waiting lines: no serial is gone before it is sent; what waits are the serials that were sent to the member
-- and aren't gone, each once, by rising stamp
pub record IsLawful (w : Rehearsal) : Type 0 where
  pub runs : run w.setting w.steps ≡ Some (state_of w)
  pub size : length (state_of w).members ≡ w.setting.members
  pub within : IsWithin w.cells (state_of w) (length w.steps)
  pub unsent : (p k : ℕ) → length (state_of w).sent < k → is_gone w p k ≡ false
  pub waits : (p k : ℕ) → has_serial k (line_of w p) ≡ (has_serial k (serials_to p 0 (state_of w).sent) && not (is_gone w p k))
  pub distinct : (p : ℕ) → is_distinct (line_of w p) ≡ true
  pub rising : (p : ℕ) → IsRising (stamp w p) (line_of w p)
  pub allowed : EachWasAllowed w

-- the member is there and up
pub record IsPresent (w : Rehearsal) (p : ℕ) : Type 0 where
  pub in_group : is_member w.setting.members p ≡ true
  pub up : is_crashed (state_of w) p ≡ false

-- the serial is in the member's line
abbrev pub is_waiting : Rehearsal → ℕ → ℕ → Bool
is_waiting w p k = has_serial k (line_of w p)

-- the serial was sent to the member, and doesn't wait
pub record IsAway (w : Rehearsal) (p k : ℕ) : Type 0 where
  pub sent : is_some (wire_to (state_of w) p k) ≡ true
  pub away : is_waiting w p k ≡ false

-- the serial that is taken or moved waits, the one that is put back was sent and doesn't
abbrev pub Waits : Rehearsal → LineChange → Type 0
Waits w (Takes p k) = is_waiting w p k ≡ true
Waits w (Defers p k) = is_waiting w p k ≡ true
Waits w (Restores p k) = IsAway w p k
Waits w Leaves = Unit {0}

-- a serial that the step takes or moves waits, one that it puts back doesn't
abbrev pub NamesWaiting : Rehearsal → Step → Type 0
NamesWaiting w step = Waits w (line_change step)

-- this is the envelope of a serial, and goes to p
pub record IsLetter (g : State) (p k : ℕ) (e : Envelope) : Type 0 where
  pub there : slice_get g.sent (k - 1) ≡ Some e
  pub to : e.to ≡ p
  pub positive : 1 ≤ k
