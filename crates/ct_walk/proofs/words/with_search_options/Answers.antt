use Rattle.std.specs.Prelude.{fold}
use Rattle.std.proofs.Common.{ap, ◌∙◌}
use Rattle.std.proofs.lemmas.Result.{IfOk-weaker}
use Rattle.clap.specs.Words.{with_rule}
use Rattle.ct_walk.specs.Line.{own_rules}
use Rattle.ct_walk.proofs.words.with_search_options.Goals as goal

pub returns : goal.returns
returns c =
    IfOk-weaker c.with_own_options.result _ _
    (λ r own. own ∙ ap (λ app. fold with_rule app own_rules) c.in_ok-command.ensures) c.with_own_options.ensures
