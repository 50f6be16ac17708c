use Rattle.std.proofs.Common.{rules, ◌∙◌}
use Rattle.ct_walk.proofs.Crashes.{last_crash, one_crash}
use Rattle.ct_walk.proofs.adversary.named.Goals as goal

pub loop-preserved : goal.loop-preserved
loop-preserved c = (
  one_crash c.args.members c.args.count c.loop.counter c.loop.draws c.crash.new.draws c.loop.script.items c.push.new.self.items _
      c.loop-test.true c.crash.ensures.after c.crash.ensures.value c.in_ok-push.ensures.items
      ∙ c.loop.invariant.0,
  search rules,
)

pub returns-clause-exact : goal.returns-clause-exact
returns-clause-exact c =
    last_crash c.args.members c.args.count c.loop.counter c.loop.draws c.loop.script.items c.loop-test.false ∙ c.loop.invariant.0
