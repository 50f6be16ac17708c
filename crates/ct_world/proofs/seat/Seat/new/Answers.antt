use Rattle.std.proofs.Common.{refl}
use Rattle.ct_world.proofs.seat.Seat.new.Goals as goal

pub returns : goal.returns
returns c =
    rw (
      c.new.ensures.me,
      c.new.ensures.ids,
      c.new-2.ensures,
      c.new-3.ensures.received,
      c.new-3.ensures.batches,
      c.new-3.ensures.instance,
      c.new-4.ensures,
    )
    refl
