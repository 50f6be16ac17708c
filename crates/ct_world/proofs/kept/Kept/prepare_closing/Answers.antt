use Rattle.std.proofs.Common.{refl, ap, length, ◌∙◌, arith}
use Rattle.std.proofs.lemmas.List.{length-map}
use Rattle.ct_names.specs.Batch.{Batch}
use Rattle.ct_model.specs.Cause.{order}
use Rattle.ct_model.specs.Rehearsal.{state_of}
use Rattle.ct_world.specs.declared.seat.Seat.{Seat}
use Rattle.ct_world.specs.Closing.{closed_instance}
use Rattle.ct_world.specs.Kept.{rehearsal_of}
use Rattle.ct_world.specs.Seats.{content}
use Rattle.ct_world.proofs.Delivery.Closings.{closing_few, closing_low, closing_room, closing_seat, closing_value, closing_within}
use Rattle.ct_world.proofs.Steps.Doing.{allowed_at}
use Rattle.ct_world.proofs.Steps.Preparing.{has_room, no_memory, reserved}
use Rattle.ct_world.proofs.Basics.Rooms.{same_set}
use Rattle.ct_world.proofs.kept.Kept.prepare_closing.Goals as goal

pub overflow_sub-member : goal.overflow_sub-member
overflow_sub-member c = closing_low c.args.closing c.args.member (allowed_at c.requires c.in_ok-cause_of_closing.ensures)

pub index_mut-seat-requires : goal.index_mut-seat-requires
index_mut-seat-requires c =
    omega (
      arith,
      closing_within c.args.closing c.args.member (allowed_at c.requires c.in_ok-cause_of_closing.ensures),
      c.args.self.now.seats.ok.0,
    )

pub instance-instance-requires : goal.instance-instance-requires
instance-instance-requires c =
    let p = allowed_at c.requires c.in_ok-cause_of_closing.ensures in
    let last = ap (λ (s : Seat). s.instances.last) (closing_seat c.args.closing c.args.member p c.index_mut-seat.ensures.value) in
    omega (arith, c.last.ensures, closing_few c.args.closing c.args.member p)

pub prepare_delivery-requires : goal.prepare_delivery-requires
prepare_delivery-requires c =
    let p = allowed_at c.requires c.in_ok-cause_of_closing.ensures in
    let here = closing_seat c.args.closing c.args.member p c.index_mut-seat.ensures.value in
    let last = c.last.ensures ∙ ap (λ (s : Seat). s.instances.last) here in
    closing_value c.args.closing c.args.member p _ _ here (c.instance-instance.ensures ∙ ap (closed_instance c.args.closing) last)

pub returns-in-Ok : goal.returns-in-Ok
returns-in-Ok c =
    let w = rehearsal_of c.args.self.now in
    let p = allowed_at c.requires c.in_ok-cause_of_closing.ensures in
    let here = closing_seat c.args.closing c.args.member p c.index_mut-seat.ensures.value in
    let last = c.last.ensures ∙ ap (λ (s : Seat). s.instances.last) here in
    let posted = c.batches-posted.ensures ∙ ap length c.foremost.ensures.value
    ∙ length-map (order (state_of w)) (λ (b : Batch). b.messages) in
    has_room c.requires (reserved refl c.reserve.ensures.record refl c.reserve.ensures.sent c.reserve.ensures.lines
    (same_set c.args.self.now.seats.items c.args.member c.prepare_delivery.new.self (c.prepare_delivery.ensures.same ∙ ap content here)))
    p.allowed refl c.in_ok-reserve.ensures.for_step c.in_ok-reserve.ensures.for_sending
    (closing_room c.args.closing c.args.member p c.prepare_delivery.new.self (c.prepare_delivery.ensures.same ∙ ap content here)
    refl refl posted (c.instance-instance.ensures ∙ ap (closed_instance c.args.closing) last) c.in-Ok.ensures.ok)

pub returns-in-Err : goal.returns-in-Err
returns-in-Err c =
    let p = allowed_at c.requires c.in_ok-cause_of_closing.ensures in
    let here = closing_seat c.args.closing c.args.member p c.index_mut-seat.ensures.value in
    no_memory c.requires (reserved refl c.reserve.ensures.record refl c.reserve.ensures.sent c.reserve.ensures.lines
    (same_set c.args.self.now.seats.items c.args.member c.prepare_delivery.new.self (c.prepare_delivery.ensures.same ∙ ap content here)))
    p.allowed refl
