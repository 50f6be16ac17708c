use Rattle.std.proofs.Common.{false}
use Rattle.ct_abcast.proofs.Feeding.{at-is}
use Rattle.ct_abcast.proofs.Pending.{taken-more, updated}
use Rattle.ct_abcast.proofs.ordered.Ordered.take_out.Goals as goal

pub loop-message-preserved : goal.loop-message-preserved
loop-message-preserved c =
    let xs = c.args.messages.now in
    let m = c.message-item.result in
    let before = c.loop-message.self-inside.messages.keys in
    let now = c.remove.new.self.keys in
    record {
      left = taken-more c.args.self.now.messages before now xs c.loop-message.message-index m c.loop-message-test.true
          c.message-item.is c.loop-message.invariant.left (updated _ at-is before now m false c.remove.ensures.updates.0);
      fed = c.loop-message.invariant.fed;
    }
