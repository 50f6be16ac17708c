use Rattle.std.proofs.Common.{◌∙◌, ap}
use Rattle.std.specs.Prelude.{is_some}
use Rattle.ct_play.proofs.Firsts.{waits_found}
use Rattle.ct_play.proofs.picking.waits_at.Goals as goal

pub returns : goal.returns
returns c =
    let place = rw c.world.ensures at c.place.ensures in
    c.is_some.ensures ∙ (ap is_some place ∙ waits_found c.args.stage.now.rehearsal c.args.member c.args.serial)
