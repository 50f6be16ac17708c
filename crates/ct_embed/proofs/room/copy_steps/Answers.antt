use Rattle.ct_embed.proofs.Common.{arith, step_code}
use Rattle.ct_embed.proofs.Rooms.{shown_more}
use Rattle.ct_embed.proofs.room.copy_steps.Goals as goal

pub loop-i-preserved : goal.loop-i-preserved
loop-i-preserved c =
    shown_more step_code c.args.list.now c.args.room.now c.loop-i.room c.loop-i.i _ c.of.result
    (omega (arith, c.loop-i-test.true, c.min-n.ensures))
    (omega (arith, c.loop-i-test.true, c.min-n.ensures)) c.loop-i.invariant c.of.ensures
