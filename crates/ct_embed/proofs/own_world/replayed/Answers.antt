use Rattle.ct_world.specs.Setup.{setting_of}
use Rattle.ct_embed.proofs.Stepping.{goes_on, stops}
use Rattle.ct_embed.proofs.own_world.replayed.Goals as goal

pub returns-in-Err-apply-clause-err : goal.returns-in-Err-apply-clause-err
returns-in-Err-apply-clause-err c = let h = c.loop-i.invariant in
    stops (setting_of c.args.setup) c.args.setup.cells c.args.steps.now c.loop-i.i c.loop-i.own c.in-Err-apply.refusal
    c.loop-i-test.true h.0 h.1 c.in-Err-apply.ensures.refusal

pub loop-i-preserved : goal.loop-i-preserved
loop-i-preserved c = let h = c.loop-i.invariant in
    goes_on (setting_of c.args.setup) c.args.setup.cells c.args.steps.now c.loop-i.i c.loop-i.own c.apply.new.self
    c.loop-i-test.true h.0 h.1 c.in_default.ensures.allowed c.in_default.ensures.ok.joined
