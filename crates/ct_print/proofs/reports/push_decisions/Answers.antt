use Rattle.std.specs.Prelude.{◌++◌, string_bytes, map}
use Rattle.std.proofs.Common.{ap, ◌∙◌}
use Rattle.ct_grammar.specs.declared.reports.decision.Decision.{Decision}
use Rattle.ct_print.specs.Reports.{decision_text}
use Rattle.ct_text.proofs.Joins.{join_starts, join_goes}
use Rattle.ct_print.proofs.reports.push_decisions.Goals as goal

pub loop-i-init : goal.loop-i-init
loop-i-init c = join_starts 32 (string_bytes c.args.text.now) (map decision_text c.args.decisions.now)

pub loop-i-preserved : goal.loop-i-preserved
loop-i-preserved c =
    let before = string_bytes c.push_separator.new.text in
    join_goes decision_text 32 c.loop-i.i c.args.decisions.now c.index-decisions-i.result (string_bytes c.loop-i.text) before _ _
    c.loop-i-test.true c.in_ok-push_separator.ensures
    (c.in_ok-push_decision.ensures ∙ ap (λ (d : Decision). before ++ decision_text d) c.index-decisions-i.is) c.loop-i.invariant
