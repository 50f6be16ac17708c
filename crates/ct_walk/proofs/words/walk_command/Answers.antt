use Rattle.std.specs.Prelude.{fold}
use Rattle.std.proofs.Common.{ap, ◌∙◌}
use Rattle.std.proofs.lemmas.Result.{IfOk-weaker}
use Rattle.clap.specs.Words.{with_rule}
use Rattle.ct_program.specs.Line.{free_rules}
use Rattle.ct_streams.proofs.Options.{with_option}
use Rattle.ct_walk.specs.Line.{own_rules}
use Rattle.ct_walk.proofs.words.walk_command.Goals as goal

pub returns : goal.returns
returns c =
    let run = c.in_ok-command.ensures ∙ ap (λ app. fold with_rule app free_rules) c.subcommand-command.ensures in
    let own = c.in_ok-with_own_options.ensures ∙ ap (λ app. fold with_rule app own_rules) run in
    IfOk-weaker c.arg.result _ _ (λ r adds. with_option _ _ _ _ _ adds c.goal_arg.ensures.local own c.goal_arg.ensures.rule) c.arg.ensures
