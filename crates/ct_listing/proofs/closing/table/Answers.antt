use Rattle.std.proofs.Common.{◌∙◌}
use Rattle.ct_listing.proofs.Reported.{of_the_group, table_there}
use Rattle.ct_listing.proofs.closing.table.Goals as goal

pub returns : goal.returns
returns c =
    let told = of_the_group c.args.stage.now.rehearsal c.args.member _ _ c.requires (rw c.world.ensures at c.in-Some.ensures) in
    table_there c.args.stage.now c.args.member c.same_table.result (c.same_table.ensures.same ∙ told) c.same_table.ensures.small
