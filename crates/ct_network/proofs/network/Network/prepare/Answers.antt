use Rattle.std.proofs.Common.{rules}
use Rattle.ct_network.proofs.Order.{order-room}
use Rattle.ct_network.proofs.network.Network.prepare.Goals as goal

pub invariant_of-self-in_err-make_room-3 : goal.invariant_of-self-in_err-make_room-3
invariant_of-self-in_err-make_room-3 c = (
  search rules,
  order-room _ _ _ _ _ _ _ c.make_room.ensures.same c.make_room-then-self-eq0.ensures.same c.len-then-self-eq0-2.ensures
      c.make_room-then-self-eq0-2.ensures c.self.invariant.1,
)

pub invariant_of-self-then-self-eq0 : goal.invariant_of-self-then-self-eq0
invariant_of-self-then-self-eq0 c = (
  search rules,
  order-room _ _ _ _ _ _ _ c.make_room.ensures.same c.make_room-then-self-eq0.ensures.same c.len-then-self-eq0-2.ensures
      c.make_room-then-self-eq0-2.ensures c.self.invariant.1,
)
