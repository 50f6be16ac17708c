-- What contracts see of a world, and what its calls answer.
use Rattle.std.specs.Prelude.{◌≡◌, ℕ, ◌+◌, length, Option, Some, None, Result, Ok, Err, if◌then◌else◌}
use Rattle.ct_names.specs.Group.{is_member}
use Rattle.ct_names.specs.declared.refusal.Refusal.{Refusal}
use Rattle.ct_model.specs.declared.step.Step.{Step}
use Rattle.ct_model.specs.Next.{next}
use Rattle.ct_model.specs.State.{Member, member}
use Rattle.ct_model.specs.Rehearsal.{Rehearsal, state_of, extended}

-- the record, and the step that room was made for
pub record WorldView : Type 0 where
  pub rehearsal : Rehearsal
  pub prepared : Option Step

-- what enabled answers
abbrev pub verdict : Option Refusal → Result (Unit {0}) Refusal
verdict None = Ok tt
verdict (Some refusal) = Err refusal

-- the state of a member after the record
abbrev pub member_of : Rehearsal → ℕ → Member
member_of w p = member (state_of w) p

-- a value for members, and none for others
abbrev pub of_member : {A : Type 0} → Rehearsal → ℕ → A → Option A
of_member w p x = if is_member w.setting.members p then Some x else None

-- an optional value for members, and none for others
abbrev pub if_member : {A : Type 0} → Rehearsal → ℕ → Option A → Option A
if_member w p x = if is_member w.setting.members p then x else None

-- the step is done: it joined the record, its next state is the new one, and it sent this many envelopes
pub record IsDone (old : Rehearsal) (step : Step) (new : Rehearsal) (sent : ℕ) : Type 0 where
  pub joined : new ≡ extended old step
  pub next : next old.setting (state_of old) step ≡ Some (state_of new)
  pub sent_more : length (state_of new).sent ≡ length (state_of old).sent + sent
