use Rattle.ct_records.proofs.Loops.{steps_go, steps_stop, steps_end}
use Rattle.ct_records.proofs.reading.steps.Goals as goal

pub returns-in_default : goal.returns-in_default
returns-in_default c =
    steps_stop c.args.version c.loop-i.steps.items c.loop-i.i c.args.values.now c.index-values-i.result _ c.loop-i-test.true
    c.index-values-i.is c.in_default.ensures c.loop-i.invariant

pub loop-i-preserved : goal.loop-i-preserved
loop-i-preserved c =
    steps_go c.args.version c.loop-i.steps.items _ c.loop-i.i c.args.values.now c.index-values-i.result _ _ c.loop-i-test.true
    c.index-values-i.is c.in-Some.ensures c.in_ok-push.ensures.items c.loop-i.invariant

pub returns : goal.returns
returns c = steps_end c.args.version c.loop-i.steps.items c.loop-i.i c.args.values.now _ c.loop-i-test.false c.loop-i.invariant
