use Rattle.std.proofs.Common.{◌∙◌, Option, Result, ap, subst}
use Rattle.ct_order.specs.declared.no_line.NoLine.{NoLine}
use Rattle.ct_order.specs.Json.{event_in, event_of}
use Rattle.ct_order.specs.Lines.{Entry}
use Rattle.ct_order.specs.Scanning.{told}
use Rattle.ct_order.specs.Taking.{MovesLine}
use Rattle.ct_order.proofs.scan.take_counted.Goals as goal

pub returns-in-Ok : goal.returns-in-Ok
unfolding event_in
returns-in-Ok c =
    subst (λ (e : Result (Option Entry) NoLine).
    MovesLine (told c.args.log c.args.standing.now e)
    c.args.table.now c.take_event-done.new.standing c.take_event-done.new.table c.take_event-done.result)
    (c.event_of.ensures ∙ ap event_of c.trimmed-text.ensures) c.take_event-done.ensures
