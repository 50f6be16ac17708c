use Rattle.std.proofs.Common.{string_bytes}
use Rattle.ct_listing.proofs.Growing.{blank_on}
use Rattle.ct_listing.proofs.lines.push_blank.Goals as goal

pub returns : goal.returns
returns c =
    blank_on (string_bytes c.args.text.now) (string_bytes c.push_told.new.text) c.args.stage.now c.requires c.in_ok-push_told.ensures
