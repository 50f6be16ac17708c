use Rattle.std.proofs.Common.{sym, ap, ◌∙◌}
use Rattle.std.specs.Prelude.{is_some}
use Rattle.ct_world.specs.declared.seat.Seat.{Seat}
use Rattle.ct_world.specs.Seats.{is_new}
use Rattle.ct_world.proofs.Steps.Doing.{ready_in, seat_in, within_in}
use Rattle.ct_world.proofs.Steps.Receiving.{receive_awaits}
use Rattle.ct_world.proofs.Basics.Waits.{awaited-some}
use Rattle.ct_world.proofs.kept.Kept.receive.Goals as goal

pub overflow_sub-member : goal.overflow_sub-member
overflow_sub-member c = (ready_in c.requires.sound c.requires.ready).low

pub unwrap-envelope-requires : goal.unwrap-envelope-requires
unwrap-envelope-requires c =
    ap is_some c.envelope.ensures ∙ awaited-some c.args.member c.args.serial c.requires.sound
    (receive_awaits (ready_in c.requires.sound c.requires.ready))

pub index-requires : goal.index-requires
index-requires c = within_in c.args.self.now (ready_in c.requires.sound c.requires.ready)

pub take_in-requires : goal.take_in-requires
take_in-requires c =
    let p = ready_in c.requires.sound c.requires.ready in
    record {
      sound = c.requires.sound;
      ready = c.requires.ready;
      arrival = record {
        found = record { allowed = c.requires.ready.allowed; placed = c.requires.ready.for_itself.placed };
        sent = sym c.envelope.ensures ∙ c.unwrap-envelope.ensures;
        new = c.is_new-new.ensures
            ∙ ap (λ (s : Seat). is_new s.relay c.unwrap-envelope.result.wire) (seat_in c.args.self.now p c.index.ensures);
      };
    }
