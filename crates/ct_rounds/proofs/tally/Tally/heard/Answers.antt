use Rattle.std.proofs.Common.{sym}
use Rattle.ct_rounds.proofs.Estimates.{senders}
use Rattle.ct_rounds.proofs.tally.Tally.heard.Goals as goal

pub returns : goal.returns
returns c = rw (← c.self.view_is) (sym (senders c.self.inside.estimates c.self.inside.heard))
