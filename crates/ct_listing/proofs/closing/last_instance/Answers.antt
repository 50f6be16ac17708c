use Rattle.std.proofs.Common.{arith}
use Rattle.ct_listing.proofs.Present.{instance_there}
use Rattle.ct_listing.proofs.closing.last_instance.Goals as goal

pub returns : goal.returns
returns c =
    instance_there c.args.stage.now c.args.member c.instance_of.result c.requires (rw c.world.ensures at c.instance_of.ensures) (omega
    arith)
