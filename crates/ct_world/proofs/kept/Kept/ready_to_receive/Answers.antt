use Rattle.std.proofs.Common.{◌-◌, refl, ap, sym, ◌∙◌, subst}
use Rattle.std.specs.Prelude.{unwrap_or}
use Rattle.std.specs.Vec.{with_item}
use Rattle.ct_names.specs.declared.refusal.Refusal.TheVariants.{OutOfMemory}
use Rattle.ct_model.specs.State.{at_serial}
use Rattle.ct_model.specs.declared.step.Step.TheVariants.{Receive}
use Rattle.ct_world.specs.declared.kept.Kept.{Kept}
use Rattle.ct_world.specs.declared.seat.Seat.{Seat}
use Rattle.ct_world.specs.Kept.{IsFoundAt, seat_of}
use Rattle.ct_world.specs.Seats.{content, is_new}
use Rattle.ct_world.proofs.Basics.Members.{seat-same}
use Rattle.ct_world.proofs.Steps.Doing.{allowed_at, seat_in, within_in}
use Rattle.ct_world.proofs.Steps.Preparing.{IsReserved, ready_for, reserved, reserved_same, reserved_sound, roomier_seats}
use Rattle.ct_world.proofs.Steps.Receiving.{new_roomier, receive_room}
use Rattle.ct_world.proofs.kept.Kept.ready_to_receive.Goals as goal

pub overflow_sub-member : goal.overflow_sub-member
overflow_sub-member c = (allowed_at c.requires c.in_ok-place.ensures.found.allowed).low

pub index_mut-seat-requires : goal.index_mut-seat-requires
index_mut-seat-requires c = within_in c.args.self.now (allowed_at c.requires c.in_ok-place.ensures.found.allowed)

pub prepare_receive-requires : goal.prepare_receive-requires
prepare_receive-requires c =
    let p = allowed_at c.requires c.in_ok-place.ensures.found.allowed in
    c.in_ok-place.ensures.new
    ∙ sym (ap (λ (s : Seat). is_new s.relay c.in_ok-place.field-0.wire) (seat_in c.args.self.now p c.index_mut-seat.ensures.value))

pub returns-in-Ok : goal.returns-in-Ok
returns-in-Ok c =
    let k = c.args.self.now in
    let p = allowed_at c.requires c.in_ok-place.ensures.found.allowed in
    let here = seat_in k p c.index_mut-seat.ensures.value in
    let r : IsReserved k _ = reserved refl c.reserve.ensures.record refl c.reserve.ensures.sent c.reserve.ensures.lines
    (roomier_seats k p _ here c.prepare_receive.ensures.same) in
    let found = c.in_ok-place.ensures in
    let sent = ap (λ es. at_serial es c.args.serial) c.reserve.ensures.sent ∙ found.sent in
    record {
      same = reserved_same r;
      sound = reserved_sound r c.requires;
      room = ready_for r p.allowed c.in_ok-reserve.ensures.for_step c.in_ok-reserve.ensures.for_sending (record {
        placed = found.found.placed;
        can = receive_room k.seats.items c.args.member c.prepare_receive.new.self p.within sent c.in-Ok.ensures.ok;
      });
      arrival = record {
        found = subst (λ w. IsFoundAt w (Receive c.args.member c.args.serial) c.args.member c.args.serial c.in_ok-place.field-0.place)
            (sym (reserved_same r)) found.found;
        sent = sent;
        new = found.new
            ∙ sym (new_roomier (seat_of k.seats.items c.args.member) c.prepare_receive.new.self
            (c.prepare_receive.ensures.same ∙ ap content here) c.in_ok-place.field-0.wire)
            ∙ sym (ap (λ (s : Seat). is_new s.relay c.in_ok-place.field-0.wire)
            (seat-same k.seats.items c.args.member c.prepare_receive.new.self p.within));
      };
      err = tt;
    }

pub returns-in-Err : goal.returns-in-Err
returns-in-Err c =
    let k = c.args.self.now in
    let p = allowed_at c.requires c.in_ok-place.ensures.found.allowed in
    let new : Kept = record k {
      steps = c.reserve.new.steps;
      network = c.reserve.new.network;
      seats = with_item k.seats (c.args.member - 1) c.prepare_receive.new.self;
    } in
    let r : IsReserved k new = reserved refl c.reserve.ensures.record refl c.reserve.ensures.sent c.reserve.ensures.lines
    (roomier_seats k p _ (seat_in k p c.index_mut-seat.ensures.value) c.prepare_receive.ensures.same) in
    record {
      same = reserved_same r;
      sound = reserved_sound r c.requires;
      room = tt;
      arrival = tt;
      err = sym (ap (λ o. unwrap_or o OutOfMemory) p.allowed);
    }
