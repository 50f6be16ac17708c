use Rattle.std.proofs.Common.{◌∙◌, ap}
use Rattle.std.specs.Prelude.{fold}
use Rattle.std.proofs.lemmas.Result.{IfOk-weaker}
use Rattle.clap.specs.Words.{with_rule}
use Rattle.ct_program.specs.Line.{other_rules}
use Rattle.ct_program.proofs.words.with_seedless_options.Goals as goal

pub returns : goal.returns
returns c =
    IfOk-weaker c.with_options.result _ _
    (λ r longer. longer ∙ ap (λ app. fold with_rule app other_rules) c.in_ok-command.ensures) c.with_options.ensures
