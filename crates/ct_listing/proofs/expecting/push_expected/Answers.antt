use Rattle.std.proofs.Common.{◌∙◌, string_bytes}
use Rattle.ct_listing.proofs.Leading.{line_if_on}
use Rattle.ct_listing.proofs.expecting.push_expected.Goals as goal

pub returns-clause-leads : goal.returns-clause-leads
returns-clause-leads c =
    line_if_on (string_bytes c.args.text.now) (string_bytes c.push_if.new.text) c.as_str-shown.result.now c.in_ok-is_taken.is_taken
    c.args.stage.now c.args.goal.now c.requires c.as_str-shown.utf8 (c.as_str-shown.ensures.value ∙ c.in_ok-line.ensures)
    c.in_ok-is_taken.ensures.ok c.in_ok-push_if.ensures
