use Rattle.ct_records.proofs.Common.{◌≡◌, ap, subst, ◌∙◌, WorldView, IsOutcome, report_text}
use Rattle.ct_records.proofs.Answered.{report_is}
use Rattle.ct_records.proofs.replaying.report_after.Goals as goal

pub returns-clause-ok : goal.returns-clause-ok
returns-clause-ok c = λ bytes whole.
    let w = c.args.stage.now.rehearsal in
    let same : c.world.result.now.rehearsal ≡ w = ap (λ (v : WorldView). v.rehearsal) c.world.ensures in
    report_is w c.in_ok-report.field-0.items bytes c.requires (subst IsOutcome same c.report.ensures.outcome)
    (c.in_ok-report.ensures.text ∙ ap report_text same) whole
