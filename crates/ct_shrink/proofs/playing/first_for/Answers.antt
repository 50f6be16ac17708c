use Rattle.std.proofs.Common.{◌≡◌, ℕ, ◌+◌, ◌<◌, List, length, drop, get_or, Option, Some, None, ap, sym, ◌∙◌, arith}
use Rattle.std.proofs.lemmas.List.{at_drop_more, at_drop_all}
use Rattle.ct_model.specs.Rehearsal.{Rehearsal}
use Rattle.ct_model.specs.declared.step.Step.{Step}
use Rattle.ct_shrink.specs.Playing.{first_for, step_for, unless_none}
use Rattle.ct_shrink.specs.declared.line.Line.{Line}
use Rattle.ct_shrink.proofs.playing.first_for.Goals as goal

-- one line more
first_here : (w : Rehearsal) (lines : List Line) (i : ℕ) (d : Line) (o : Option Step) → i < length lines →
    o ≡ step_for w (get_or lines i d) →
    first_for w i (drop i lines) ≡ unless_none (first_for w (i + 1) (drop (i + 1) lines)) (i + 1) o
first_here w lines i d o lt is =
    at_drop_more (first_for w i) lines i d lt ∙ ap (unless_none (first_for w (i + 1) (drop (i + 1) lines)) (i + 1)) (sym is)

pub loop-i-preserved : goal.loop-i-preserved
loop-i-preserved c =
    let w = c.args.stage.now.rehearsal in
    c.loop-i.invariant
    ∙ first_here w c.args.lines.now c.loop-i.i c.index-lines-i.result None c.loop-i-test.true
    (sym c.in_default.is ∙ c.step_for.ensures ∙ ap (step_for w) c.index-lines-i.is)

pub returns-in-Some-clause-step : goal.returns-in-Some-clause-step
returns-in-Some-clause-step c =
    let w = c.args.stage.now.rehearsal in
    sym
    (c.loop-i.invariant
    ∙ first_here w c.args.lines.now c.loop-i.i c.index-lines-i.result (Some c.in-Some.step) c.loop-i-test.true
    (sym c.in-Some.is ∙ c.step_for.ensures ∙ ap (step_for w) c.index-lines-i.is))

pub returns-clause-step : goal.returns-clause-step
returns-clause-step c =
    let over : c.loop-i.i ≡ length c.args.lines.now = omega (arith, c.loop-i-test.false, c.loop-i.auto.i-end c.requires) in
    sym
    (c.loop-i.invariant ∙ at_drop_all (first_for c.args.stage.now.rehearsal c.loop-i.i) c.args.lines.now c.loop-i.i c.loop-i-test.false
    ∙ ap (λ k. let ended : ℕ × Option Step = (k, None) in ended) over)
