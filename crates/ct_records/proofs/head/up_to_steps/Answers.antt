use Rattle.std.proofs.Common.{arith}
use Rattle.ct_records.proofs.Ended.{found_none, found_more, listed}
use Rattle.ct_records.proofs.head.up_to_steps.Goals as goal

pub loop-init : goal.loop-init
loop-init c = found_none c.args.bytes.now c.none-numbers.result c.none-numbers.ensures

pub returns-then-is : goal.returns-then-is
returns-then-is c =
    listed c.args.bytes.now c.loop.rest.now c.in_ok-key.key.now c.in_ok-key.value.now _ c.loop.numbers c.loop.invariant
    c.in_ok-key.ensures (c.is.ensures c.if-is.true) c.in_ok-mark.ensures

pub loop-preserved : goal.loop-preserved
loop-preserved c =
    found_more c.args.bytes.now c.loop.rest.now c.in_ok-key.key.now c.in_ok-key.value.now c.in_ok-n.after.now c.in_ok-rest.rest.now
    c.in_ok-n.n c.loop.numbers c.in_ok-numbers.numbers c.loop.invariant c.in_ok-key.ensures c.in_ok-n.ensures.text c.in_ok-rest.ensures
    (omega (arith, c.in_ok-n.ensures.within)) c.in_ok-numbers.ensures
