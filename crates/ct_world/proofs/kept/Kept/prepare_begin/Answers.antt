use Rattle.std.proofs.Common.{refl, ap, arith}
use Rattle.ct_world.specs.declared.seat.Seat.{Seat}
use Rattle.ct_world.specs.Kept.{rehearsal_of}
use Rattle.ct_world.proofs.Steps.Doing.{allowed_at, seat_in, within_in}
use Rattle.ct_world.proofs.Steps.Preparing.{has_room, no_memory, reserved, roomier_seats}
use Rattle.ct_world.proofs.Steps.Proposing.{begin_few, begin_room}
use Rattle.ct_world.proofs.kept.Kept.prepare_begin.Goals as goal

pub overflow_sub-member : goal.overflow_sub-member
overflow_sub-member c = (allowed_at c.requires c.in_ok-cause_of_begin.ensures).low

pub index_mut-seat-requires : goal.index_mut-seat-requires
index_mut-seat-requires c = within_in c.args.self.now (allowed_at c.requires c.in_ok-cause_of_begin.ensures)

pub prepare_begin-requires : goal.prepare_begin-requires
prepare_begin-requires c =
    let p = allowed_at c.requires c.in_ok-cause_of_begin.ensures in
    let last = ap (λ (s : Seat). s.instances.last) (seat_in c.args.self.now p c.index_mut-seat.ensures.value) in
    let few = begin_few p in
    record { few = omega arith }

pub returns-in-Ok-prepare_begin : goal.returns-in-Ok-prepare_begin
returns-in-Ok-prepare_begin c =
    let p = allowed_at c.requires c.in_ok-cause_of_begin.ensures in
    has_room c.requires (reserved refl c.reserve.ensures.record c.prepare.ensures.values c.reserve.ensures.sent c.reserve.ensures.lines
    (roomier_seats c.args.self.now p _ (seat_in c.args.self.now p c.index_mut-seat.ensures.value) c.prepare_begin.ensures.same))
    p.allowed refl c.in_ok-reserve.ensures.for_step c.in_ok-reserve.ensures.for_sending
    (begin_room (rehearsal_of c.args.self.now) c.args.self.now.seats.items c.args.member c.prepare_begin.new.self p.within refl
    c.in-Ok-prepare_begin.ensures.proposal c.in-Ok-prepare_begin.ensures.room c.in-Ok.ensures.ok)

pub returns-in-Err : goal.returns-in-Err
returns-in-Err c =
    let p = allowed_at c.requires c.in_ok-cause_of_begin.ensures in
    no_memory c.requires (reserved refl c.reserve.ensures.record c.prepare.ensures.values c.reserve.ensures.sent c.reserve.ensures.lines
    (roomier_seats c.args.self.now p _ (seat_in c.args.self.now p c.index_mut-seat.ensures.value) c.prepare_begin.ensures.same))
    p.allowed refl
