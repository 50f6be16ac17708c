use Rattle.std.proofs.Common.{◌∙◌, ap}
use Rattle.std.specs.Prelude.{is_none}
use Rattle.ct_play.proofs.Looking.{holds_unless_any, is_none-not}
use Rattle.ct_play.proofs.goals.holds_at.Goals as goal

pub returns-in_default : goal.returns-in_default
returns-in_default c =
    is_none-not c.unshown.result c.is_none.result c.is_none.ensures
    ∙ (ap is_none c.unshown.ensures
    ∙ holds_unless_any c.args.stage.now c.args.term.now.whom c.args.term.now.claim c.in_default.not-Any)
