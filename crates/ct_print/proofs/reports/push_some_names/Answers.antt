use Rattle.std.specs.Prelude.{string_bytes, map}
use Rattle.ct_print.specs.Reports.{name_text}
use Rattle.ct_text.proofs.Joins.{join_starts, join_goes}
use Rattle.ct_print.proofs.reports.push_some_names.Goals as goal

pub loop-i-init : goal.loop-i-init
loop-i-init c = join_starts c.args.separator (string_bytes c.args.text.now) (map name_text c.args.names.now)

pub loop-i-preserved : goal.loop-i-preserved
loop-i-preserved c =
    join_goes name_text c.args.separator c.loop-i.i c.args.names.now _ (string_bytes c.loop-i.text) _ _ _
    c.loop-i-test.true c.in_ok-push_separator.ensures c.in_ok-push_name.ensures c.loop-i.invariant
