use Rattle.std.proofs.Common.{◌≡◌, ap, arith, length}
use Rattle.ct_rehearse.proofs.PlanLemmas.{run_fits}
use Rattle.ct_rehearse.proofs.rehearsing.rehearse_in.Goals as goal

pub run_free-made-requires-clause-steps : goal.run_free-made-requires-clause-steps
run_free-made-requires-clause-steps g c κs within =
    let members : c.new-hall.result.0.members ≡ c.args.world.rehearsal.setting.members =
    ap (λ (h : _). h.members) c.new-hall.ensures.hall in
    let steps : c.new-hall.result.1.steps ≡ length c.args.world.rehearsal.steps = ap (λ (s : _). s.steps) c.new-hall.ensures.share in
    let same : length c.record.result.now ≡ length c.args.world.rehearsal.steps = ap length c.record.ensures.value in
    run_fits c.new-hall.result.0.members c.new-hall.result.1.steps c.args.plan.now
    (omega (arith, members, c.group.ensures, c.n.ensures.value, c.n.ensures.at_most))
    (omega (arith, steps, same, c.record.ensures.few))
    c.requires.plan
