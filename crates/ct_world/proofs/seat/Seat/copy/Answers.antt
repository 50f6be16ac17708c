use Rattle.std.proofs.Common.{refl}
use Rattle.ct_world.proofs.seat.Seat.copy.Goals as goal

pub returns : goal.returns
returns c =
    rw (
      c.in_ok-copy.ensures.me,
      c.in_ok-copy.ensures.ids,
      c.in_ok-copy-2.ensures,
      c.in_ok-copy-3.ensures.received,
      c.in_ok-copy-3.ensures.batches,
      c.in_ok-copy-3.ensures.instance,
    )
    refl
