use Rattle.std.proofs.Common.{false, arith}
use Rattle.ct_names.proofs.Orders.{same_eq}
use Rattle.ct_abcast.proofs.Pending.{taken-more, updated}
use Rattle.ct_abcast.proofs.caster.take_out.Goals as goal

pub loop-message-preserved : goal.loop-message-preserved
loop-message-preserved c =
    let xs = c.args.messages.now in
    let m = c.message-item.result in
    let before = c.loop-message.pending.keys in
    let now = c.swap_remove.new.self.keys in
    record {
      left = taken-more c.args.pending.now.keys before now xs c.loop-message.message-index m c.loop-message-test.true
          c.message-item.is c.loop-message.invariant.left (updated _ same_eq before now m false c.swap_remove.ensures.updates.0);
      room = omega (arith, c.loop-message.invariant.room, c.swap_remove.ensures.room.0);
    }
