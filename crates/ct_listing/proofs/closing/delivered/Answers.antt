use Rattle.std.proofs.Common.{ap, map, ◌∙◌}
use Rattle.ct_play.specs.Facts.{the_name}
use Rattle.ct_listing.proofs.Reported.{delivered_there, of_the_group}
use Rattle.ct_listing.proofs.closing.delivered.Goals as goal

pub returns : goal.returns
returns c =
    let told = of_the_group c.args.stage.now.rehearsal c.args.member _ _ c.requires (rw c.world-world.ensures at c.in-Some.ensures) in
    delivered_there c.args.stage.now c.args.member c.world-world.result.now.rehearsal c.record.result.now
    c.in_ok-names_of-in-Some.field-0 c.world-world.ensures c.record.ensures.value c.record.ensures.runs c.record.ensures.safe c.requires
    (c.in_ok-names_of-in-Some.ensures.names ∙ ap (map the_name) told) c.in_ok-names_of-in-Some.ensures.fit
