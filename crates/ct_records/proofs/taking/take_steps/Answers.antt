use Rattle.std.proofs.Common.{arith}
use Rattle.ct_records.proofs.Sources.{done_then}
use Rattle.ct_records.proofs.taking.take_steps.Goals as goal

pub returns-then-not-more-clause-done : goal.returns-then-not-more-clause-done
returns-then-not-more-clause-done g c =
    done_then _ _ _ _ _ _ c.args.input.now c.loop.input c.take_more.new.input c.loop.invariant.done c.in_ok-more.ensures.done

pub returns-then-len-gt-MOST-clause-done : goal.returns-then-len-gt-MOST-clause-done
returns-then-len-gt-MOST-clause-done g c =
    done_then _ _ _ _ _ _ c.args.input.now c.loop.input c.take_more.new.input c.loop.invariant.done c.in_ok-more.ensures.done

pub loop-preserved : goal.loop-preserved
loop-preserved g c = record {
  done = done_then _ _ _ _ _ _ c.args.input.now c.loop.input c.take_more.new.input c.loop.invariant.done c.in_ok-more.ensures.done;
  few = omega (arith, c.if-input-gt-MAX_LEN.false);
  short = omega (arith, c.if-len-gt-MOST.false);
  same = grind (arith, c.in_ok-more.ensures.failures, c.loop.invariant.same);
}
