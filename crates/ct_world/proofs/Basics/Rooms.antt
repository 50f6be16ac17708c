-- Room for a step: a world whose seats keep the same, and whose network and book have the same, is a world still.
use Rattle.std.proofs.Common.{◌≡◌, ℕ, ◌-◌, true, List, length, set, get_or, ap, sym, ◌∙◌, arith}
use Rattle.std.proofs.Math.Seq.{map-set_same}
use Rattle.std.proofs.lemmas.List.{get_or-map}
use Rattle.ct_names.specs.Group.{is_member}
use Rattle.ct_names.specs.Value.{Value}
use Rattle.ct_model.specs.State.{Member}
use Rattle.ct_model.specs.Rehearsal.{Rehearsal}
use Rattle.ct_relay.specs.Taken.{is_first}
use Rattle.ct_instances.proofs.Keeping.{keeps-prepared}
use Rattle.ct_network.specs.Network.{line_at}
use Rattle.ct_world.specs.declared.seat.Seat.{Seat}
use Rattle.ct_world.specs.Seats.{Keeps, Content, content, AreSameSeats}
use Rattle.ct_world.specs.Kept.{Fields, IsWorld, no_seat, seat_of}
use Rattle.ct_world.proofs.Basics.Members.{place}
use Rattle.ct_world.proofs.Basics.SeatLists.{same_length}

-- the instances of seats that keep the same
same_instances : (old new : Seat) → content new ≡ content old → new.instances ≡ record old.instances { entries = new.instances.entries }
same_instances old new e = λ j. record {
  members = (e j).seat.instances.members;
  me = (e j).seat.instances.me;
  last = (e j).seat.instances.last;
  part = (e j).seat.instances.part;
  entries = new.instances.entries;
}

-- a seat that keeps the same keeps the member's state
pub keeps-roomier : {n p : ℕ} {values : List Value} {m : Member} (old : Seat) {new : Seat} → content new ≡ content old
    → Keeps n values p m old → Keeps n values p m new
keeps-roomier {n} {p} {values} {m} old {new} s k = record {
  crashed = ap (λ (c : Content). c.seat.crashed) s ∙ k.crashed;
  me = ap (λ (c : Content). c.seat.relay.me) s ∙ k.me;
  taken = λ name. ap (λ (c : Content). is_first c.seat.relay.ids name) s ∙ k.taken name;
  received = ap (λ (c : Content). c.seat.caster.received) s ∙ k.received;
  batches = ap (λ (c : Content). c.seat.caster.batches) s ∙ k.batches;
  table = ap (λ (c : Content). c.seat.table) s ∙ k.table;
  begun = ap (λ (c : Content). c.seat.caster.instance) s ∙ k.begun;
  instances = keeps-prepared n values p m old.instances new.instances k.instances (λ q r. ap (λ (c : Content). c.ballots q r) s)
      (λ q. ap (λ (c : Content). c.decisions q) s) (same_instances old new s);
}

-- the seat of one member was exchanged for one that keeps the same
pub same_set : (seats : List Seat) (p : ℕ) (seat : Seat) → content seat ≡ content (seat_of seats p) → AreSameSeats seats
    (set seats (p - 1) seat)
same_set seats p seat same = map-set_same content seats (p - 1) seat no_seat same

-- other fields that keep the same
pub record IsRoomier (f new : Fields) : Type 0 where
  pub values : new.book.values ≡ f.book.values
  pub sent : new.network.sent ≡ f.network.sent
  pub lines : new.network.lines ≡ f.network.lines
  pub same : AreSameSeats f.seats new.seats

module _ {w : Rehearsal} {f new : Fields} (world : IsWorld w f) (r : IsRoomier f new) where
  seat_same : (p : ℕ) → is_member w.setting.members p ≡ true → content (seat_of new.seats p) ≡ content (seat_of f.seats p)
  seat_same p group =
      let within = place w.setting.members p group in
      let seated : length f.seats ≡ w.setting.members = world.seated in
      let as_many : length new.seats ≡ length f.seats = same_length f.seats new.seats r.same in
      sym (get_or-map content new.seats (p - 1) no_seat (content no_seat) (omega arith))
      ∙ ap (λ list. get_or list (p - 1) (content no_seat)) r.same
      ∙ get_or-map content f.seats (p - 1) no_seat (content no_seat) (omega arith)

  pub world-roomier : IsWorld w new
  world-roomier = record {
    lawful = world.lawful;
    messages = world.messages;
    fixed = world.fixed;
    values = r.values ∙ world.values;
    sent = rw (r.values, r.sent) world.sent;
    lined = ap length r.lines ∙ world.lined;
    line = λ q group. ap (λ lines. line_at lines q) r.lines ∙ world.line q group;
    seated = same_length f.seats new.seats r.same ∙ world.seated;
    seat = λ q group. rw r.values (keeps-roomier (seat_of f.seats q) (seat_same q group) (world.seat q group));
    submitted = λ q group. ap (λ (c : Content). c.seat.submitted) (seat_same q group) ∙ world.submitted q group;
  }
