use Rattle.std.proofs.Common.{◌∙◌}
use Rattle.ct_walk.proofs.Found.{line_is}
use Rattle.ct_walk.proofs.goals.no_goal_line.Goals as goal

pub returns : goal.returns
returns c = c.in_ok-push_onto.ensures ∙ line_is c.args.name.now c.args.text.now _ c.args.misfit.now c.in_ok-line.ensures.ok
