use Rattle.std.proofs.Common.{ap, ◌∙◌}
use Rattle.std.proofs.lemmas.Result.{IfOk-weaker}
use Rattle.clap.specs.Words.{rule_of}
use Rattle.ct_streams.proofs.Options.{with_option}
use Rattle.ct_views.proofs.words.state_command.Goals as goal

pub returns : goal.returns
returns c =
    let file = with_option _ _ _ _ _ c.in_ok-arg.ensures c.file_argument.ensures.local c.subcommand.ensures c.file_argument.ensures.rule in
    let after_local = ap (λ a. a.global) c.hide_default_value.ensures ∙ c.default_option.ensures.local in
    let after_is = ap rule_of c.hide_default_value.ensures ∙ c.default_option.ensures.rule in
    let after = with_option _ _ _ _ _ c.in_ok-arg-2.ensures after_local file after_is in
    IfOk-weaker c.arg-3.result _ _ (λ r adds. with_option _ _ _ _ _ adds c.flag.ensures.local after c.flag.ensures.rule) c.arg-3.ensures
