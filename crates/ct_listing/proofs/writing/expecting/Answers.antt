use Rattle.std.proofs.Common.{◌∙◌, ap, string_bytes}
use Rattle.ct_world.specs.Setup.{record_of}
use Rattle.ct_play.specs.Played.{Played}
use Rattle.ct_listing.proofs.Leading.{leads_parts}
use Rattle.ct_listing.proofs.writing.expecting.Goals as goal

pub returns-clause-parts : goal.returns-clause-parts
returns-clause-parts c =
    leads_parts (string_bytes c.push_schedule.new.text) (string_bytes c.push_expected.new.text) c.push_schedule.new.stage
    (record_of c.args.setup c.args.steps.now) c.args.goal.now c.in_ok-push_schedule.ensures.leads
    (c.in_ok-push_schedule.ensures.steps
    ∙ ap (λ (s : Played). record s.rehearsal { steps = c.args.steps.now }) (c.with_index-stage.ensures ∙ c.in_ok-new.ensures.ok))
    c.in_ok-push_expected.ensures.is
