use Rattle.std.proofs.Common.{◌≡◌, arith, subst}
use Rattle.ct_names.specs.declared.limit.TheConstants.{MAX_MEMBERS}
use Rattle.ct_merge.specs.Stops.{IsLed}
use Rattle.ct_merge.proofs.Standing.{circle, led_fewer}
use Rattle.ct_merge.proofs.standstill.root.Goals as goal

pub returns : goal.returns
returns c =
    let logs = c.args.logs.now in
    let t = c.args.progress.now in
    let at = c.loop-step.at in
    let all : c.loop-step.step ≡ MAX_MEMBERS = omega (arith, c.loop-step-test.false, c.loop-step.auto.step-end) in
    circle logs t at c.culprit-2.result c.loop-step.invariant.member c.loop-step.invariant.more
    (led_fewer logs t t.rehearsal.setting.members MAX_MEMBERS at c.few.ensures
    (subst (λ n. IsLed logs t n at) all c.loop-step.invariant.led))
    c.culprit-2.ensures.member c.culprit-2.ensures.place c.culprit-2.ensures.why
