-- What is kept of a member, how it follows from the member's state, and what a receipt does to it.
use Rattle.std.specs.Prelude.{◌≡◌, ℕ, ◌+◌, ◌<◌, ◌≤◌, ◌&&◌, ◌==◌, Bool, true, false, not, if◌then◌else◌, List, [], ◌∷◌, ◌++◌, Option, Some}
use Rattle.std.specs.Prelude.{None, length, map, nat_lt, slice_index_or}
use Rattle.std.specs.List.{list_any}
use Rattle.std.specs.Option.{option_or}
use Rattle.ct_names.specs.Batch.{Batch}
use Rattle.ct_names.specs.Group.{coordinator}
use Rattle.ct_names.specs.Message.{Message}
use Rattle.ct_names.specs.Value.{Value}
use Rattle.ct_model.specs.declared.wire.Wire.{Wire as AnyWire}
use Rattle.ct_model.specs.declared.mail.Mail.{Mail as AnyMail}
use Rattle.ct_model.specs.declared.wire.Wire.TheVariants.{Data, Dec}
use Rattle.ct_model.specs.declared.mail.Mail.TheVariants.{Nobody, All}
use Rattle.ct_model.specs.State.{Member, delivered}
use Rattle.ct_model.specs.Received.{Ballots, received, is_decision, decision_of}
use Rattle.ct_model.specs.Counted.{count_in}
use Rattle.ct_relay.specs.Taken.{Taken, is_first, with_id}
use Rattle.ct_relay.specs.declared.relay_id.RelayId.{RelayId}
use Rattle.ct_relay.specs.declared.relay_id.RelayId.TheVariants as id
use Rattle.ct_abcast.specs.Cast.{Cast, batch_of}
use Rattle.ct_table.specs.Table.{zeros, applied_all, table}
use Rattle.ct_instances.specs.Kept.{ballots_of, decision_at, has_room}
use Rattle.ct_instances.specs.Keeping.{KeepsInstances}
use Rattle.ct_instances.specs.Named.{value_at}
use Rattle.ct_world.specs.declared.seat.Seat.{Seat}

-- the wire is a message, or a decision, of this name
abbrev pub has_name : {V : Type 0} → RelayId → AnyWire V → Bool
has_name (id.Data origin number) (Data m) = (m.origin == origin) && (m.number == number)
has_name (id.Data origin number) _ = false
has_name (id.Dec instance round) w = is_decision instance round w

-- one such was got
abbrev pub was_got : {V : Type 0} → List (AnyWire V) → RelayId → Bool
was_got got name = list_any (has_name name) got

-- the seat has what the member's state says, but for the messages that it submitted; values go by number
pub record Keeps (n : ℕ) (values : List Value) (p : ℕ) (m : Member) (seat : Seat) : Type 0 where
  pub crashed : seat.crashed ≡ m.crashed
  pub me : seat.relay.me ≡ p
  pub taken : (name : RelayId) → is_first seat.relay.ids name ≡ not (was_got m.got name)
  pub received : seat.caster.received ≡ received m.got
  pub batches : seat.caster.batches ≡ map (λ b. b.messages) m.batches
  pub table : seat.table ≡ table (delivered m)
  pub begun : seat.caster.instance ≡ m.last
  pub instances : KeepsInstances n values p m seat.instances

-- the seat of member p of a group of n, which has done nothing
abbrev pub new_seat : ℕ → ℕ → Seat
new_seat n p = record {
  submitted = 0;
  crashed = false;
  relay = record { me = p; ids = []; has_room = false };
  instances = record { members = n; me = p; last = 0; part = None; entries = [] };
  caster = record { received = []; batches = []; instance = 0; room = 0; fits_batch = false };
  table = zeros;
}

-- what is kept at a seat, whatever room there is for more: the seat with no room, and what its instances got
pub record Content : Type 0 where
  pub seat : Seat
  pub ballots : ℕ → ℕ → Ballots ℕ
  pub decisions : ℕ → Option ℕ

abbrev pub content : Seat → Content
content seat = record {
  seat = record seat {
    relay = record seat.relay { has_room = false };
    caster = record seat.caster { room = 0; fits_batch = false };
    instances = record seat.instances { entries = [] };
  };
  ballots = λ k r. ballots_of seat.instances k r;
  decisions = λ k. decision_at seat.instances k;
}

-- the first k seats of a group of n, in which nothing was done
pub record AreNewSeats (n k : ℕ) (seats : List Seat) : Type 0 where
  pub seated : length seats ≡ k
  pub each : (i : ℕ) (d : Seat) → i < k → content (slice_index_or seats i d) ≡ content (new_seat n (i + 1))

-- the seats keep the same, whatever room they have
abbrev pub AreSameSeats : List Seat → List Seat → Type 0
AreSameSeats old new = map content new ≡ map content old

-- whether the wire is a message or a decision that comes for the first time
abbrev pub is_new : Taken → AnyWire ℕ → Bool
is_new taken (Data m) = is_first taken.ids (id.Data m.origin m.number)
is_new taken (Dec k r v) = is_first taken.ids (id.Dec k r)
is_new taken _ = false

-- room to receive the wire
pub record CanReceive (seat : Seat) (x : AnyWire ℕ) : Type 0 where
  pub relay : is_new seat.relay x ≡ true → seat.relay.has_room ≡ true
  pub message : is_new seat.relay x ≡ true → 1 ≤ seat.caster.room
  pub note : has_room seat.instances x ≡ true

-- whether the member passes the wire on: it gets it for the first time, and didn't send it to all before
abbrev pub is_passed_on : ℕ → Taken → AnyWire ℕ → Bool
is_passed_on n taken (Data m) = is_first taken.ids (id.Data m.origin m.number) && not (m.origin == taken.me)
is_passed_on n taken (Dec k r v) = is_first taken.ids (id.Dec k r) && not (coordinator n r == taken.me)
is_passed_on n taken _ = false

-- what it then sends
abbrev pub passed_on : ℕ → Taken → AnyWire ℕ → AnyMail ℕ
passed_on n taken x = if is_passed_on n taken x then All x else Nobody

-- the names taken after the receipt
abbrev pub ids_with : List RelayId → AnyWire ℕ → List RelayId
ids_with ids (Data m) = with_id ids (id.Data m.origin m.number)
ids_with ids (Dec k r v) = with_id ids (id.Dec k r)
ids_with ids _ = ids

-- the messages received after the receipt
abbrev pub received_with : List RelayId → List Message → AnyWire ℕ → List Message
received_with ids list (Data m) = if is_first ids (id.Data m.origin m.number) then (list ++ m ∷ []) else list
received_with ids list _ = list

-- the seat before and after it got the wire
pub record HasReceived (old : Seat) (x : AnyWire ℕ) (new : Seat) : Type 0 where
  pub submitted : new.submitted ≡ old.submitted
  pub crashed : new.crashed ≡ old.crashed
  pub me : new.relay.me ≡ old.relay.me
  pub ids : new.relay.ids ≡ ids_with old.relay.ids x
  pub received : new.caster.received ≡ received_with old.relay.ids old.caster.received x
  pub batches : new.caster.batches ≡ old.caster.batches
  pub table : new.table ≡ old.table
  pub begun : new.caster.instance ≡ old.caster.instance
  pub ballots : (k r : ℕ) → ballots_of new.instances k r ≡ count_in (ballots_of old.instances k r) k r x
  pub decisions : (k : ℕ) → decision_at new.instances k ≡ option_or (decision_at old.instances k) (decision_of k x)
  pub instances : new.instances ≡ record old.instances { entries = new.instances.entries }

-- all but the names taken and the messages received is the same
pub record HasSameRest (old new : Seat) : Type 0 where
  pub submitted : new.submitted ≡ old.submitted
  pub crashed : new.crashed ≡ old.crashed
  pub me : new.relay.me ≡ old.relay.me
  pub batches : new.caster.batches ≡ old.caster.batches
  pub table : new.table ≡ old.table
  pub begun : new.caster.instance ≡ old.caster.instance
  pub instances : new.instances ≡ old.instances

-- the seat after it delivered the value
abbrev pub with_batch : Seat → Value → Seat
with_batch seat v = record seat {
  caster = record seat.caster { batches = seat.caster.batches ++ batch_of seat.caster v ∷ [] };
  table = applied_all seat.table (batch_of seat.caster v);
}

-- the same for its open instance, which is closed
abbrev pub with_delivery : Seat → Value → Seat
with_delivery seat v = record (with_batch seat v) { instances = record seat.instances { part = None } }

-- the seat once its next instance was begun, and none is open
abbrev pub with_next : Seat → Seat
with_next seat = record seat {
  caster = record seat.caster { instance = seat.caster.instance + 1 };
  instances = record seat.instances { last = seat.instances.last + 1 };
}

-- the batch that the member posts for the value of an instance, where so many were posted
abbrev pub batch_to_post : Cast → ℕ → Value → ℕ → Option Batch
batch_to_post cast instance v posted =
    if nat_lt (length cast.batches) posted then None else Some (record { instance = instance; messages = batch_of cast v })

-- the number is that of the decision for the instance, the seat has room to deliver its value, and the batch is the one that
-- it posts, where so many were posted
pub record IsDeliverable (values : List Value) (seat : Seat) (instance posted : ℕ) (number : ℕ) (batch : Option Batch) : Type 0 where
  pub decided : decision_at seat.instances instance ≡ Some number
  pub fits : seat.caster.fits_batch ≡ true
  pub messages : (v : Value) → value_at values number ≡ Some v → length v ≤ seat.caster.room
  pub posting : (v : Value) → value_at values number ≡ Some v → batch ≡ batch_to_post seat.caster instance v posted
