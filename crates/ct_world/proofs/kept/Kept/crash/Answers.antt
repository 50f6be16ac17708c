use Rattle.std.proofs.Common.{◌-◌, true, set, refl, ap}
use Rattle.ct_model.proofs.Steps.Crash.{crash_taken}
use Rattle.ct_world.specs.declared.seat.Seat.{Seat}
use Rattle.ct_world.specs.Kept.{rehearsal_of}
use Rattle.ct_world.proofs.Steps.Doing.{does_in, ready_in, seat_in, within_in}
use Rattle.ct_world.proofs.Steps.Crashing.{crash_mail, crash_steps}
use Rattle.ct_world.proofs.kept.Kept.crash.Goals as goal

pub overflow_sub-member : goal.overflow_sub-member
overflow_sub-member c = (ready_in c.requires.sound c.requires.ready).low

pub index_mut-seat-requires : goal.index_mut-seat-requires
index_mut-seat-requires c = within_in c.args.self.now (ready_in c.requires.sound c.requires.ready)

pub returns : goal.returns
returns c =
    let p = ready_in c.requires.sound c.requires.ready in
    does_in refl p tt c.join.ensures (crash_taken _ _ p.world.lawful p.allowed) (crash_mail (rehearsal_of c.args.self.now) c.args.member)
    (crash_steps p (ap (λ (s : Seat). set c.args.self.now.seats.items (c.args.member - 1) (record s { crashed = true }))
    (seat_in c.args.self.now p c.index_mut-seat.ensures.value))
    refl refl refl)
