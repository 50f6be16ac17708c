-- Which envelopes a line names.
use Rattle.std.specs.Prelude.{ℕ, zero, suc, Bool, true, false, ◌&&◌, ◌==◌, not, List, [], Option, is_some, Some, None, find, filter, length}
use Rattle.std.specs.Prelude.{option_map, if◌then◌else◌, unwrap_or}
use Rattle.std.specs.List.{list_any}
use Rattle.std.specs.Option.{option_or}
use Rattle.ct_names.specs.MemberSet.{has_member}
use Rattle.ct_model.specs.Mapped.{without_value}
use Rattle.ct_model.specs.Rehearsal.{Rehearsal, state_of, line_of}
use Rattle.ct_model.specs.Senders.{senders}
use Rattle.ct_model.specs.State.{at_serial}
use Rattle.ct_model.specs.declared.envelope.Envelope.{Envelope}
use Rattle.ct_model.specs.declared.wire.Wire.{Wire}
use Rattle.ct_model.specs.declared.wire.Wire.TheVariants as wire
use Rattle.ct_world.specs.World.{of_member}
use Rattle.ct_grammar.specs.declared.carried.Carried.{Carried}
use Rattle.ct_grammar.specs.declared.carried.Carried.TheVariants.{Data, Est, Prop, Ack, Nack, Dec}
use Rattle.ct_grammar.specs.declared.pick.Pick.{Pick}
use Rattle.ct_grammar.specs.declared.pick.Pick.TheVariants.{Serial, First}

-- what a wire carries
abbrev pub carried_of : {V : Type 0} → Wire V → Carried
carried_of (wire.Data m) = Data m.origin m.number
carried_of (wire.Est k r p v t) = Est k r
carried_of (wire.Prop k r v) = Prop k r
carried_of (wire.Ack k r p) = Ack k r
carried_of (wire.Nack k r p) = Nack k r
carried_of (wire.Dec k r v) = Dec k r

-- a wire is what a line names: a message by its origin and number, another by its instance and round
abbrev pub carries : {V : Type 0} → Wire V → Carried → Bool
carries (wire.Data m) (Data o n) = (m.origin == o) && (m.number == n)
carries (wire.Est i s p v t) (Est k r) = (i == k) && (s == r)
carries (wire.Prop i s v) (Prop k r) = (i == k) && (s == r)
carries (wire.Ack i s p) (Ack k r) = (i == k) && (s == r)
carries (wire.Nack i s p) (Nack k r) = (i == k) && (s == r)
carries (wire.Dec i s v) (Dec k r) = (i == k) && (s == r)
carries _ _ = false

-- an envelope carries it
abbrev pub is_carried : Carried → Option (Envelope (Unit {0})) → Bool
is_carried carried None = false
is_carried carried (Some e) = carries e.wire carried

-- a sender is the one that is named, if one is
abbrev pub is_from : Option ℕ → Option ℕ → Bool
is_from None sender = true
is_from (Some p) None = false
is_from (Some p) (Some q) = q == p

-- whose step sent the envelope of a serial
unfoldable pub sender_of : Rehearsal → ℕ → Option ℕ
sender_of w k = at_serial (senders w.setting w.steps) k

-- the envelope of a serial is so named
unfoldable pub is_so : Rehearsal → Carried → Option ℕ → ℕ → Bool
is_so w carried from k = is_carried carried (option_map without_value (at_serial (state_of w).sent k)) && is_from from (sender_of w k)

-- ---- what waits

-- the serials that wait at p; none where p is no member of the group
unfoldable pub waiting_at : Rehearsal → ℕ → List ℕ
waiting_at w p = unwrap_or (of_member w p (line_of w p)) []

-- the serial waits at p
unfoldable pub waits_at : Rehearsal → ℕ → ℕ → Bool
waits_at w p k = list_any (λ q. q == k) (waiting_at w p)

-- the first serial in p's waiting line whose envelope is so named
unfoldable pub first_so : Rehearsal → ℕ → Carried → Option ℕ → Option ℕ
first_so w p carried from = find (is_so w carried from) (waiting_at w p)

-- the serial that is picked for p
abbrev pub picked : Rehearsal → ℕ → Pick → Option ℕ
picked w p (Serial k) = Some k
picked w p (First carried from) = first_so w p carried from

-- an envelope that is so named waits at p
abbrev pub is_waiting : Rehearsal → ℕ → Pick → Bool
is_waiting w p (Serial k) = waits_at w p k
is_waiting w p (First carried from) = is_some (first_so w p carried from)

-- the step of one of these sent it
abbrev pub is_of : List ℕ → Option ℕ → Bool
is_of set None = false
is_of set (Some q) = has_member set q

-- the serials that wait at p and that a step of one of these sent
unfoldable pub waiting_from : Rehearsal → ℕ → List ℕ → List ℕ
waiting_from w p set = filter (λ k. is_of set (sender_of w k)) (waiting_at w p)

-- the first of them
unfoldable pub first_from : Rehearsal → ℕ → List ℕ → Option ℕ
first_from w p set = find (λ k. is_of set (sender_of w k)) (waiting_at w p)

-- ---- what was sent

-- an envelope goes to p
abbrev pub is_to : ℕ → Option (Envelope (Unit {0})) → Bool
is_to p None = false
is_to p (Some e) = e.to == p

-- the envelope of a serial was sent to p and is so named
unfoldable pub was_sent : Rehearsal → ℕ → Carried → Option ℕ → ℕ → Bool
was_sent w p carried from k = is_to p (option_map without_value (at_serial (state_of w).sent k)) && is_so w carried from k

-- it was, and does not wait there
unfoldable pub is_gone : Rehearsal → ℕ → Carried → Option ℕ → ℕ → Bool
is_gone w p carried from k = was_sent w p carried from k && not (waits_at w p k)

-- the largest of the serials up to one that passes a test
abbrev pub last_of : (ℕ → Bool) → ℕ → Option ℕ
last_of test zero = None
last_of test (suc k) = if test (suc k) then Some (suc k) else last_of test k

-- the last one that was sent to p, is so named and does not wait there; where each of these waits, the last of them
unfoldable pub last_so : Rehearsal → ℕ → Carried → Option ℕ → Option ℕ
last_so w p carried from =
    let sent = length (state_of w).sent in
    option_or (last_of (is_gone w p carried from) sent) (last_of (was_sent w p carried from) sent)

-- the serial that is repeated for p
abbrev pub repeated : Rehearsal → ℕ → Pick → Option ℕ
repeated w p (Serial k) = Some k
repeated w p (First carried from) = last_so w p carried from
