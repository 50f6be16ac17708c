use Rattle.std.proofs.Common.{◌∙◌, ap, sym}
use Rattle.ct_table.specs.Table.{table}
use Rattle.ct_world.proofs.Reading.Shown.{delivered_is, table_is}
use Rattle.ct_world.proofs.world.World.outcome.Goals as goal

pub returns-clause-delivered : goal.returns-clause-delivered
returns-clause-delivered c = c.delivered.ensures ∙ delivered_is c.in_ok-seat.ensures.seat

pub returns-clause-table : goal.returns-clause-table
returns-clause-table c =
    table_is c.in_ok-seat.ensures.seat
    ∙ ap table (sym (returns-clause-delivered c))
