use Rattle.std.proofs.Common.{◌∙◌, ap, sym, length}
use Rattle.ct_walk.proofs.Entries.{few-entries}
use Rattle.ct_walk.proofs.draws.Draws.new.Goals as goal

pub returns-clause-few : goal.returns-clause-few
returns-clause-few c =
    few-entries c.args.options.now c.requires.range _ _ _ _ _
    (ap length c.new.ensures ∙ (sym c.in_ok-submissions.field-0.ok.0 ∙ c.in_ok-submissions.ensures.count))
    (ap length c.new-2.ensures ∙ (sym c.in_ok-postponements.field-0.ok.0 ∙ c.in_ok-postponements.ensures.count))
    (ap length c.new-3.ensures ∙ (sym c.in_ok-losses.field-0.ok.0 ∙ c.in_ok-losses.ensures.count))
    (ap length c.new-4.ensures ∙ (sym c.in_ok-repetitions.field-0.ok.0 ∙ c.in_ok-repetitions.ensures.count))
    (ap length c.new-5.ensures ∙ (sym c.in_ok-crashes.field-0.ok.0 ∙ c.in_ok-crashes.ensures.few))
