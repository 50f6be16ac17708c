use Rattle.std.proofs.Common.{◌-◌, set, refl, ap, sym, ◌∙◌, subst}
use Rattle.ct_world.specs.declared.seat.Seat.{Seat}
use Rattle.ct_world.specs.Seats.{CanReceive, HasReceived, is_new, passed_on}
use Rattle.ct_world.proofs.Steps.Doing.{does_in, ready_in, seat_in, within_in}
use Rattle.ct_world.proofs.Steps.Receiving.{left_lined, named_mail, received_named, received_taken, receive_steps}
use Rattle.ct_world.proofs.Steps.Refines.{mail-few, mail-number}
use Rattle.ct_world.proofs.Basics.Places.{placed_in}
use Rattle.ct_world.proofs.kept.Kept.take_in.Goals as goal

pub overflow_sub-member : goal.overflow_sub-member
overflow_sub-member c = (ready_in c.requires.sound c.requires.ready).low

pub index_mut-seat-requires : goal.index_mut-seat-requires
index_mut-seat-requires c = within_in c.args.self.now (ready_in c.requires.sound c.requires.ready)

pub receive-mail-requires : goal.receive-mail-requires
receive-mail-requires c =
    let p = ready_in c.requires.sound c.requires.ready in
    let there = c.requires.arrival.sent in
    let here = seat_in c.args.self.now p c.index_mut-seat.ensures.value in
    record {
      new = c.requires.arrival.new ∙ sym (ap (λ (s : Seat). is_new s.relay c.args.arrival.wire) here);
      room = subst (λ (s : Seat). CanReceive s c.args.arrival.wire) (sym here)
          (c.requires.ready.for_itself.can _ there);
      sender = received_named p there;
    }

pub leave-requires : goal.leave-requires
leave-requires c =
    let p = ready_in c.requires.sound c.requires.ready in
    record {
      member = p.lined;
      there = (placed_in c.args.member c.args.serial p.world p.in_group c.requires.ready.for_itself.placed).within;
    }

pub post-sent-requires-clause-room : goal.post-sent-requires-clause-room
post-sent-requires-clause-room c =
    c.leave.ensures.room ∙ c.requires.ready.for_sending

pub post-sent-requires-clause-few : goal.post-sent-requires-clause-few
post-sent-requires-clause-few c =
    let p = ready_in c.requires.sound c.requires.ready in
    let there = c.requires.arrival.sent in
    let mail = c.receive-mail.ensures.mail ∙ ap (λ (s : Seat). passed_on c.args.self.now.group s.relay c.args.arrival.wire)
    (seat_in c.args.self.now p c.index_mut-seat.ensures.value) in
    mail-few _ p.world (received_taken p there) (named_mail p there mail)
    (left_lined _ _ _ c.leave.ensures.lines p.world.lined) c.leave.ensures.sent

pub returns : goal.returns
returns c =
    let p = ready_in c.requires.sound c.requires.ready in
    let there = c.requires.arrival.sent in
    let here = seat_in c.args.self.now p c.index_mut-seat.ensures.value in
    let mail = c.receive-mail.ensures.mail
    ∙ ap (λ (s : Seat). passed_on c.args.self.now.group s.relay c.args.arrival.wire) here in
    does_in refl p tt c.join.ensures (received_taken p there)
    (mail-number _ p.world (received_taken p there) (named_mail p there mail)
    (left_lined _ _ _ c.leave.ensures.lines p.world.lined) ∙ sym c.post-sent.ensures.number)
    (receive_steps p there {left = c.leave.new.self}
    (subst (λ (s : Seat). HasReceived s c.args.arrival.wire c.receive-mail.new.self) here c.receive-mail.ensures.received)
    mail c.leave.ensures.sent
    (c.leave.ensures.lines ∙ ap (set c.args.self.now.network.lines (c.args.member - 1))
    (placed_in c.args.member c.args.serial p.world p.in_group c.requires.ready.for_itself.placed).rest)
    (record { sent = c.post-sent.ensures.sent; lined = c.post-sent.ensures.members; joined = c.post-sent.ensures.joined })
    refl refl)
