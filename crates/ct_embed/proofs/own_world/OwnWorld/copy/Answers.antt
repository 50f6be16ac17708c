use Rattle.ct_embed.proofs.Copying.{spared_copy}
use Rattle.ct_embed.proofs.own_world.OwnWorld.copy.Goals as goal

pub returns-in-Err-clause-err : goal.returns-in-Err-clause-err
returns-in-Err-clause-err c =
    spared_copy c.world-world.result.now.rehearsal c.group.result c.cells.result c.bound.result c.record.result.now c.in-Err.fault.at
    c.in-Err.fault.refusal c.record.ensures.lawful.allowed c.group.ensures c.cells.ensures.value c.bound.ensures.value
    c.record.ensures.value c.in-Err.ensures.err
