-- What stands in the way of all being done.
use Rattle.std.specs.Prelude.{ℕ, Bool, true, false, not, ◌&&◌, ◌||◌, ◌==◌, if◌then◌else◌, List, [], ◌∷◌, Option, Some, None, is_none}
use Rattle.std.specs.Prelude.{length, option_and_then, option_map}
use Rattle.std.specs.List.{list_all, list_any}
use Rattle.std.specs.Option.{option_map_or, option_or}
use Rattle.ct_names.specs.declared.refusal.Refusal.{Refusal}
use Rattle.ct_names.specs.declared.refusal.Refusal.TheVariants as refusal
use Rattle.ct_names.specs.Group.{coordinator, is_majority, members}
use Rattle.ct_model.specs.declared.envelope.Envelope.{Envelope}
use Rattle.ct_model.specs.declared.step.Step.{Step}
use Rattle.ct_model.specs.declared.step.Step.TheVariants.{Receive, Begin, Enter, Choose, Adopt, Conclude, Deliver, Follow}
use Rattle.ct_model.specs.declared.wire.Wire.{Wire}
use Rattle.ct_model.specs.declared.wire.Wire.TheVariants.{Data, Est, Prop, Ack, Nack, Dec}
use Rattle.ct_model.specs.Cause.{cause}
use Rattle.ct_model.specs.Mapped.{without_value}
use Rattle.ct_model.specs.Next.{can_act}
use Rattle.ct_model.specs.Phases.{is_wait}
use Rattle.ct_model.specs.Received.{decided, received_by}
use Rattle.ct_model.specs.Rehearsal.{Rehearsal, state_of}
use Rattle.ct_model.specs.State.{at_serial}
use Rattle.ct_model.specs.When.{when}
use Rattle.ct_rest.specs.Rest.{members_up}
use Rattle.ct_world.specs.World.{member_of}
use Rattle.ct_choices.specs.Choices.{first_waiting, has_crashed}
use Rattle.ct_progress.specs.Progress.{is_settled}
use Rattle.ct_play.specs.Picking.{is_to, sender_of}
use Rattle.ct_play.specs.Played.{Played}
use Rattle.ct_settled.specs.declared.hindrance.Hindrance.{Hindrance}
use Rattle.ct_settled.specs.declared.hindrance.Hindrance.TheVariants.{Waits, May, Full, Awaits, Few, Lost}

-- the first thing that is there for one of these
abbrev pub first_of : {A B : Type 0} → (A → Option B) → List A → Option B
first_of f [] = None
first_of f (x ∷ xs) = option_or (f x) (first_of f xs)

-- ---- what a member could do

-- the step, where nothing refuses it or a limit does
abbrev pub told_by : Step → Option Refusal → Option Hindrance
told_by step None = Some (May step)
told_by step (Some (refusal.Full limit)) = Some (Full step limit)
told_by step _ = None

abbrev pub told : Rehearsal → Step → Option Hindrance
told w step = told_by step (cause w step)

-- the choice of one of so many first members
unfoldable pub choices : Rehearsal → ℕ → ℕ → Option Hindrance
choices w p n = first_of (λ q. told w (Choose p q)) (members n)

-- the first of p's own steps that is allowed or refused for a limit; a suspicion is left out
unfoldable pub acts : Rehearsal → ℕ → Option Hindrance
acts w p =
    option_or (first_of (told w) (Deliver p ∷ Follow p ∷ Begin p ∷ []))
    (option_or (choices w p w.setting.members) (first_of (told w) (Adopt p ∷ Conclude p ∷ Enter p ∷ [])))

-- p waits for the proposal of q, which crashed
abbrev pub awaits_of : Rehearsal → ℕ → Bool → ℕ → Option Hindrance
awaits_of w p waits q = when (waits && has_crashed w q) (Awaits p q)

-- p waits for the proposal of its round's coordinator, which crashed
unfoldable pub awaits : Rehearsal → ℕ → Option Hindrance
awaits w p = option_and_then (λ c. awaits_of w p (is_wait c.phase) (coordinator w.setting.members c.round)) (member_of w p).current

-- something waits at p, or p could act, or it waits for one that crashed; nothing where it crashed itself
unfoldable pub hindered : Rehearsal → ℕ → Option Hindrance
hindered w p =
    if has_crashed w p
    then None
    else option_or (option_map (Waits p) (first_waiting w p)) (option_or (acts w p) (awaits w p))

-- ---- what was lost

-- the envelope of a serial, without its value
abbrev pub letter : Rehearsal → ℕ → Option (Envelope (Unit {0}))
letter w k = option_map without_value (at_serial (state_of w).sent k)

-- the step is the receipt of this serial by the member that its envelope goes to
abbrev pub is_receipt : Rehearsal → ℕ → Step → Bool
is_receipt w k (Receive p i) = (i == k) && is_to p (letter w k)
is_receipt w k _ = false

unfoldable pub was_received : Rehearsal → ℕ → Bool
was_received w k = list_any (is_receipt w k) w.steps

-- a member is there and up
abbrev pub is_up : Rehearsal → ℕ → Bool
is_up w q = can_act w.setting (state_of w) q

abbrev pub is_up_if : Rehearsal → Option ℕ → Bool
is_up_if w None = false
is_up_if w (Some q) = is_up w q

-- a step of one that is up sent the serial to q, which is up, and never received it
unfoldable pub is_lost : Rehearsal → ℕ → ℕ → Bool
is_lost w k q = is_up_if w (sender_of w k) && (is_up w q && not (was_received w k))

-- q has this instance open, and is in this round of it
unfoldable pub is_in_round : Rehearsal → ℕ → ℕ → ℕ → Bool
is_in_round w q k r = option_map_or (λ c. ((member_of w q).last == k) && (c.round == r)) (member_of w q).current false

-- q received a message of this origin and number
unfoldable pub has_message : Rehearsal → ℕ → ℕ → ℕ → Bool
has_message w q origin number = list_any (λ m. (m.origin == origin) && (m.number == number)) (received_by (state_of w) q)

-- q could use it: a message that it didn't receive, a decision that it hasn't, a vote of its round
abbrev pub needs : Rehearsal → ℕ → Wire (Unit {0}) → Bool
needs w q (Data m) = not (has_message w q m.origin m.number)
needs w q (Est k r p v t) = is_in_round w q k r
needs w q (Prop k r v) = is_in_round w q k r
needs w q (Ack k r p) = is_in_round w q k r
needs w q (Nack k r p) = is_in_round w q k r
needs w q (Dec k r v) = is_none (decided (member_of w q).got k)

-- the serial, where its envelope was lost and, if that is asked, its member could use it
abbrev pub lost_as : Rehearsal → Bool → ℕ → Envelope (Unit {0}) → Option Hindrance
lost_as w needed k e = when (is_lost w k e.to && (not needed || needs w e.to e.wire)) (Lost e.to k)

unfoldable pub lost_at : Rehearsal → Bool → ℕ → Option Hindrance
lost_at w needed k = option_and_then (lost_as w needed k) (letter w k)

-- the first serial that was lost; of these the first that is needed, where there is one
unfoldable pub first_lost : Rehearsal → Bool → Option Hindrance
first_lost w needed = first_of (lost_at w needed) (members (length (state_of w).sent))

abbrev pub lost : Rehearsal → Option Hindrance
lost w = option_or (first_lost w true) (first_lost w false)

-- ---- all of it

-- a majority is up
unfoldable pub is_enough : Rehearsal → Bool
is_enough w = is_majority w.setting.members (members_up w.setting (state_of w))

-- what is in the way of a member, where there is something; else few are up, or something was lost
unfoldable pub obstacle : Rehearsal → Option Hindrance
obstacle w =
    option_or (first_of (hindered w) (members w.setting.members)) (if is_enough w then lost w else Some Few)

-- each member of the group crashed, or all is done
unfoldable pub are_settled : Rehearsal → Bool
are_settled w = list_all (is_settled w) (members w.setting.members)

-- what stands in the way of all being done; None where it is
unfoldable pub hindrance : Played → Option Hindrance
hindrance s = if are_settled s.rehearsal then None else obstacle s.rehearsal
