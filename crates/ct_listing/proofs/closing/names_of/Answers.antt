use Rattle.std.proofs.Common.{arith}
use Rattle.ct_listing.proofs.Reported.{one_more, one_more_fits}
use Rattle.ct_listing.proofs.closing.names_of.Goals as goal

pub loop-message-preserved : goal.loop-message-preserved
loop-message-preserved c = (
  one_more c.loop-message.names.items c.push.new.self.items c.args.messages.now c.loop-message.message-index c.origin-origin.result
      c.number-number.result c.message-item.result c.loop-message.invariant.0 c.loop-message-test.true c.message-item.is
      c.origin-origin.ensures c.number-number.ensures c.in_ok-push.ensures.items,
  rw c.in_ok-push.ensures.items (one_more_fits c.loop-message.names.items _ c.loop-message.invariant.1
      (omega (arith, c.origin-origin.type_inv), omega (arith, c.number-number.type_inv))),
)
