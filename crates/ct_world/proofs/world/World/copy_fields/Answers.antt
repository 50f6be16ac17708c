use Rattle.std.proofs.Common.{◌∙◌, subst}
use Rattle.ct_model.proofs.Basics.Options.{some-none}
use Rattle.ct_world.specs.Seats.{AreSameSeats}
use Rattle.ct_world.proofs.Basics.Rooms.{world-roomier}
use Rattle.ct_world.proofs.world.World.copy_fields.Goals as goal

pub invariant_of-result : goal.invariant_of-result
invariant_of-result c = record {
  sound = rw (c.in_ok-from_slice.ensures.items ∙ c.deref.ensures.value) (world-roomier c.self.invariant.sound (record {
    values = c.in_ok-copy-2.ensures;
    sent = c.in_ok-copy.ensures.sent;
    lines = c.in_ok-copy.ensures.lines;
    same = subst (λ seats. AreSameSeats seats c.in_ok-copy_seats.field-0.items) c.deref-2.ensures.value c.in_ok-copy_seats.ensures;
  }));
  ready = λ room e. some-none room e;
}
