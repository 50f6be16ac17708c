use Rattle.ct_embed.proofs.Common.{◌∙◌, ap, arith, message_code}
use Rattle.ct_embed.proofs.Rooms.{shown_more}
use Rattle.ct_embed.proofs.room.fill_messages.Goals as goal

pub loop-i-preserved : goal.loop-i-preserved
loop-i-preserved c =
    shown_more message_code c.args.list.now c.args.room.now c.loop-i.room c.loop-i.i c.index-list-i.result c.of.result
    (omega (arith, c.loop-i-test.true, c.min-n.ensures)) (omega (arith, c.loop-i-test.true, c.min-n.ensures)) c.loop-i.invariant
    (c.of.ensures ∙ ap message_code c.index-list-i.is)
