-- How lines name the envelopes of steps.
use Rattle.std.specs.Prelude.{ℕ, ◌-◌, ◌==◌, nat_le, Bool, true, false, not, ◌&&◌, length, Option, Some, None, option_map, if◌then◌else◌}
use Rattle.ct_model.specs.Mapped.{without_value}
use Rattle.ct_model.specs.Rehearsal.{Rehearsal, state_of}
use Rattle.ct_model.specs.State.{at_serial}
use Rattle.ct_model.specs.declared.envelope.Envelope.{Envelope}
use Rattle.ct_model.specs.declared.step.Step.{Step}
use Rattle.ct_model.specs.declared.step.Step.TheVariants as step
use Rattle.ct_grammar.specs.declared.act.Act.{Act}
use Rattle.ct_grammar.specs.declared.act.Act.TheVariants.{Submit, Receive, Begin, Enter, Choose, Adopt, Suspect, Conclude, Deliver}
use Rattle.ct_grammar.specs.declared.act.Act.TheVariants.{Follow, Crash, Postpone, Lose, Repeat}
use Rattle.ct_grammar.specs.declared.carried.Carried.{Carried}
use Rattle.ct_grammar.specs.declared.carried.Carried.TheVariants.{Data, Est, Prop, Ack, Nack, Dec}
use Rattle.ct_grammar.specs.declared.pick.Pick.{Pick}
use Rattle.ct_grammar.specs.declared.pick.Pick.TheVariants.{Serial, First}
use Rattle.ct_play.specs.Picking.{carried_of, picked, repeated, sender_of, waits_at}
use Rattle.ct_listing.specs.declared.naming.Naming.{Naming}
use Rattle.ct_listing.specs.declared.naming.Naming.TheVariants.{Short, Full}
use Rattle.ct_listing.specs.declared.naming.TheConstants.{MOST_SINCE}

-- without its sender, unless that is content: what a message, a proposal or a decision says is the same whoever sends it
abbrev pub short_name : Carried → Option ℕ → Pick
short_name (Data origin number) from = First (Data origin number) None
short_name (Est i r) from = First (Est i r) from
short_name (Prop i r) from = First (Prop i r) None
short_name (Ack i r) from = First (Ack i r) from
short_name (Nack i r) from = First (Nack i r) from
short_name (Dec i r) from = First (Dec i r) None

abbrev pub name_with : Naming → Carried → Option ℕ → Pick
name_with Short carried from = short_name carried from
name_with Full carried from = First carried from

-- by what it carries; by its serial, where it was not sent
abbrev pub name_by : Naming → ℕ → Option (Envelope (Unit {0})) → Option ℕ → Pick
name_by naming k None from = Serial k
name_by naming k (Some e) from = name_with naming (carried_of e.wire) from

-- of the envelope of a serial
unfoldable pub name_of : Naming → Rehearsal → ℕ → Pick
name_of naming w k = name_by naming k (option_map without_value (at_serial (state_of w).sent k)) (sender_of w k)

-- the serial is this one
abbrev pub is_it : Option ℕ → ℕ → Bool
is_it None k = false
is_it (Some j) k = j == k

-- where it waits at p: by its serial, where both names are another one's
unfoldable pub waiting_name : Naming → Rehearsal → ℕ → ℕ → Pick
waiting_name naming w p k =
    if is_it (picked w p (name_of naming w k)) k then name_of naming w k
    else if is_it (picked w p (name_of Full w k)) k then name_of Full w k else Serial k

-- few were sent since
abbrev pub few_since : Rehearsal → ℕ → Bool
few_since w k = nat_le (length (state_of w).sent - k) MOST_SINCE

-- the same, and it does not wait at p
abbrev pub is_recent : Rehearsal → ℕ → ℕ → Bool
is_recent w p k = few_since w k && not (waits_at w p k)

-- it is looked for among all that were sent
abbrev pub is_sought : Naming → Rehearsal → ℕ → ℕ → Bool
is_sought Short w p k = is_recent w p k
is_sought Full w p k = true

-- where p gets it again
unfoldable pub repeated_name : Naming → Rehearsal → ℕ → ℕ → Pick
repeated_name naming w p k =
    if not (is_sought naming w p k) then Serial k
    else if is_it (repeated w p (name_of naming w k)) k then name_of naming w k
    else if is_it (repeated w p (name_of Full w k)) k then name_of Full w k else Serial k

-- the act of a step that is taken next
abbrev pub act_of : Naming → Rehearsal → Step → Act
act_of naming w (step.Submit p command) = Submit command
act_of naming w (step.Receive p k) = Receive (waiting_name naming w p k)
act_of naming w (step.Begin p) = Begin
act_of naming w (step.Enter p) = Enter
act_of naming w (step.Choose p from) = Choose from
act_of naming w (step.Adopt p) = Adopt
act_of naming w (step.Suspect p) = Suspect
act_of naming w (step.Conclude p) = Conclude
act_of naming w (step.Deliver p) = Deliver
act_of naming w (step.Follow p) = Follow
act_of naming w (step.Crash p) = Crash
act_of naming w (step.Postpone p k) = Postpone (waiting_name naming w p k)
act_of naming w (step.Lose p k) = Lose (waiting_name naming w p k)
act_of naming w (step.Repeat p k) = Repeat (repeated_name naming w p k)
