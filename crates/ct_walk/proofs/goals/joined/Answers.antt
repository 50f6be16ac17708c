use Rattle.std.proofs.Common.{◌∙◌}
use Rattle.std.proofs.lemmas.Result.{IfOk-weaker}
use Rattle.ct_walk.proofs.Found.{joined_is}
use Rattle.ct_walk.proofs.goals.joined.Goals as goal

pub returns : goal.returns
returns c = IfOk-weaker c.join.result _ _ (λ text is. is ∙ joined_is _ c.args.words.now) c.join.ensures.ok
