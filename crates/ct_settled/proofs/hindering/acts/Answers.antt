use Rattle.ct_settled.proofs.Acting.{acts_is}
use Rattle.ct_settled.proofs.hindering.acts.Goals as goal

pub returns : goal.returns
returns c = let e = acts_is c.args.world.now.rehearsal c.args.member in cc
