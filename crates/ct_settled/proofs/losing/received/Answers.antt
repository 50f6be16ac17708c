use Rattle.std.proofs.Common.{◌∙◌, take, arith}
use Rattle.std.proofs.lemmas.List.{take_all}
use Rattle.ct_settled.proofs.Marking.{all_marked}
use Rattle.ct_settled.proofs.losing.received.Goals as goal

pub returns : goal.returns
returns c =
    let list = c.record-step-items.result.now in
    all_marked c.args.world.now.rehearsal (take c.loop-step.step-index list) c.loop-step.received.items
    (take_all c.loop-step.step-index list (omega arith) ∙ c.record-step-items.ensures.value) c.loop-step.invariant
