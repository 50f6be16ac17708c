use Rattle.ct_listing.proofs.Present.{crashed_there, up_there}
use Rattle.ct_listing.proofs.closing.life.Goals as goal

pub returns-then-crashed : goal.returns-then-crashed
returns-then-crashed c =
    crashed_there c.args.stage.now c.args.member c.crashed.result c.requires (rw c.world.ensures at c.crashed.ensures) c.if-crashed.true

pub returns-else-crashed : goal.returns-else-crashed
returns-else-crashed c =
    up_there c.args.stage.now c.args.member c.crashed.result c.requires (rw c.world.ensures at c.crashed.ensures) c.if-crashed.false
