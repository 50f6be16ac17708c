use Rattle.std.proofs.Common.{◌+◌, sym, ◌∙◌, arith}
use Rattle.ct_order.proofs.Ending.{input_more}
use Rattle.ct_order.proofs.judged.input_count.Goals as goal

pub loop-name-preserved : goal.loop-name-preserved
loop-name-preserved c =
    let more = input_more (λ name. name.now) c.args.names.now c.loop-name.name-index _ c.loop-name-test.true in
    let low = c.loop-name.invariant.few in
    let one = c.input_in-count.ensures.few in
    record {
      count = (λ j. c.loop-name.invariant.count j + c.input_in-count.ensures.value j) ∙ sym more;
      few = omega arith;
    }
