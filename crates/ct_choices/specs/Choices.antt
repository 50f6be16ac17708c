-- What a turn tries, and what it asks first.
use Rattle.std.specs.Prelude.{◌≡◌, ℕ, Bool, false, ◌&&◌, Option, Some, None, if◌then◌else◌, unwrap_or, slice_get, option_and_then}
use Rattle.std.specs.Prelude.{is_none, option_map}
use Rattle.ct_names.specs.Group.{is_member, coordinator}
use Rattle.ct_model.specs.declared.step.Step.{Step}
use Rattle.ct_model.specs.declared.step.Step.TheVariants.{Receive, Suspect}
use Rattle.ct_model.specs.Cause.{cause}
use Rattle.ct_model.specs.Rehearsal.{Rehearsal, extended, state_of, line_of}
use Rattle.ct_model.specs.State.{is_crashed}
use Rattle.ct_world.specs.World.{member_of, of_member, if_member}
use Rattle.ct_world.specs.Driving.{next_local}
use Rattle.ct_detect.specs.declared.ask.Ask.{Ask}

-- p is a member of the group, and has crashed
abbrev pub has_crashed : Rehearsal → ℕ → Bool
has_crashed w p = is_member w.setting.members p && is_crashed (state_of w) p

-- the first serial that waits at p
unfoldable pub first_waiting : Rehearsal → ℕ → Option ℕ
first_waiting w p = option_and_then (λ line. slice_get line 0) (of_member w p (line_of w p))

-- the receipt of the serial
abbrev pub receives : ℕ → Option ℕ → Option Step
receives p serial = option_map (Receive p) serial

-- the last instance that p began, 0 where there is none
unfoldable pub instance_of : Rehearsal → ℕ → ℕ
instance_of w p = unwrap_or (of_member w p (member_of w p).last) 0

-- the round that p is in, 0 where it is in none
unfoldable pub round_of : Rehearsal → ℕ → ℕ
round_of w p = unwrap_or (option_map (λ c. c.round) (if_member w p (member_of w p).current)) 0

-- what p asks its detector: whether it suspects the coordinator of the round that p is in
unfoldable pub ask_of : Rehearsal → ℕ → Ask
ask_of w p = record {
  member = p;
  coordinator = coordinator w.setting.members (round_of w p);
  instance = instance_of w p;
  round =
      round_of w p;
}

-- what p asks where this step comes next: a suspicion alone is asked about
abbrev pub asked_for : Option Step → Ask → Option Ask
asked_for (Some (Suspect p)) ask = Some ask
asked_for _ ask = None

-- what a turn of p asks its detector; None where it asks nothing
unfoldable pub question : Rehearsal → ℕ → Option Ask
question w p = asked_for (next_local w p) (ask_of w p)

-- the answer that a detector gave last
abbrev pub said : Option (Ask × Bool) → Bool
said (Some last) = last.1
said None = false

-- where a suspicion comes next, the detector was asked; else it was not
abbrev pub HasAsked : Option Step → Ask → Option (Ask × Bool) → Option (Ask × Bool) → Type 0
HasAsked (Some (Suspect p)) ask old new = new ≡ Some (ask, said new)
HasAsked _ ask old new = new ≡ old

-- what is tried: the step that comes next, a suspicion only where it is said; else the receipt of the first waiting serial
abbrev pub chosen : ℕ → Option ℕ → Bool → Option Step → Option Step
chosen p serial answer (Some (Suspect q)) = if answer then Some (Suspect q) else receives p serial
chosen p serial answer (Some step) = Some step
chosen p serial answer None = receives p serial

-- what a turn of p tries, where this is what its detector was asked last
unfoldable pub tried : Rehearsal → ℕ → Option (Ask × Bool) → Option Step
tried w p last = if has_crashed w p then None else chosen p (first_waiting w p) (said last) (next_local w p)

-- the record after a step is tried: the step joins it where nothing refuses it
abbrev pub after_try : Rehearsal → Option Step → Rehearsal
after_try w None = w
after_try w (Some step) = if is_none (cause w step) then extended w step else w
