use Rattle.ct_order.proofs.Scanned.{stops_next, takes_all, takes_next, takes_none}
use Rattle.ct_order.proofs.scan.Scan.take.Goals as goal

pub loop-byte-init : goal.loop-byte-init
loop-byte-init c = takes_none c.args.log c.args.self.now c.args.table.now

pub loop-byte-preserved : goal.loop-byte-preserved
loop-byte-preserved c =
    takes_next c.args.log c.args.self.now c.args.table.now c.args.bytes.now c.loop-byte.byte-index c.loop-byte.self c.loop-byte.table
    c.loop-byte.invariant c.take_byte.new.self c.take_byte.new.table c.loop-byte-test.true c.in-Ok.ensures

pub returns-in-Err : goal.returns-in-Err
returns-in-Err c =
    stops_next c.args.log c.args.self.now c.args.table.now c.args.bytes.now c.loop-byte.byte-index c.loop-byte.self c.loop-byte.table
    c.loop-byte.invariant c.in-Err.stop c.loop-byte-test.true c.in-Err.ensures

pub returns : goal.returns
returns c =
    takes_all c.args.log c.args.self.now c.args.table.now c.args.bytes.now c.loop-byte.byte-index c.loop-byte.self c.loop-byte.table
    c.loop-byte.invariant c.loop-byte-test.false
