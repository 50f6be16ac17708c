use Rattle.std.proofs.Common.{◌∙◌, arith}
use Rattle.ct_play.proofs.Expected.{met_here, unmet_here}
use Rattle.ct_play.proofs.expecting.unmet.Goals as goal

pub returns-then-not-branch : goal.returns-then-not-branch
returns-then-not-branch c =
    unmet_here c.args.stage.now c.args.goal.now c.deref-term-items.result.now c.loop-term.term-index c.term-item.result
    c.in_ok-is_met.field-0 (c.deref-term-items.ensures.value ∙ c.goal.view_is) (omega (arith, c.loop-term-test.true)) c.term-item.is
    c.in_ok-is_met.ensures c.if-not-branch.true c.loop-term.invariant

pub loop-term-preserved : goal.loop-term-preserved
loop-term-preserved c =
    met_here c.args.stage.now c.args.goal.now c.deref-term-items.result.now c.loop-term.term-index c.term-item.result
    c.in_ok-is_met.field-0 (c.deref-term-items.ensures.value ∙ c.goal.view_is) (omega (arith, c.loop-term-test.true)) c.term-item.is
    c.in_ok-is_met.ensures c.if-not-branch.false c.loop-term.invariant
