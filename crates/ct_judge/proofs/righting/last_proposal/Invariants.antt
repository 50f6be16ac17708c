use Rattle.std.proofs.Common.{◌≡◌, None, fold, take}
use Rattle.std.specs.Option.{option_or}
use Rattle.ct_judging.specs.Rights.{proposed_in}
use Rattle.ct_judge.proofs.righting.last_proposal.Given as goal

abbrev pub invariant-loop-step : goal.invariant-loop-step
invariant-loop-step l =
    l.last ≡ fold (λ last step. option_or (proposed_in l.world.rehearsal l.member step) last) None
    (take l.step-index l.world.rehearsal.steps)
