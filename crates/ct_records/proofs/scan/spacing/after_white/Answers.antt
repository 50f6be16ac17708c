use Rattle.ct_records.proofs.Fronts.{white_none}
use Rattle.ct_records.proofs.scan.spacing.after_white.Goals as goal

pub returns-in-len1-up : goal.returns-in-len1-up
returns-in-len1-up c = white_none c.args.bytes.now
