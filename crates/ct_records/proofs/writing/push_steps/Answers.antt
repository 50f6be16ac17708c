use Rattle.ct_records.proofs.Common.{string_bytes, map, step_text, join_starts, join_goes}
use Rattle.ct_records.proofs.Fitting.{fit_more, fit_all}
use Rattle.ct_records.proofs.writing.push_steps.Goals as goal

pub loop-i-init : goal.loop-i-init
loop-i-init c = record { text = join_starts 44 (string_bytes c.args.text.now) (map step_text c.args.steps.now); fit = tt }

pub loop-i-preserved : goal.loop-i-preserved
loop-i-preserved c = record {
  text = join_goes step_text 44 c.loop-i.i c.args.steps.now _ (string_bytes c.loop-i.text) (string_bytes c.push_separator.new.text) _ _
      c.loop-i-test.true c.in_ok-push_separator.ensures c.in_ok-push_step.ensures.text c.loop-i.invariant.text;
  fit = fit_more c.args.steps.now c.loop-i.i _ c.loop-i-test.true c.push_step.ensures.fits c.loop-i.invariant.fit;
}

pub returns-clause-fit : goal.returns-clause-fit
returns-clause-fit c = fit_all c.args.steps.now c.loop-i.i c.loop-i-test.false c.loop-i.invariant.fit
