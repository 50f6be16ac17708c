use Rattle.std.proofs.Common.{ap, ◌∙◌}
use Rattle.std.proofs.lemmas.Result.{IfOk-weaker}
use Rattle.clap.specs.Words.{rule_of}
use Rattle.ct_streams.proofs.Options.{with_option}
use Rattle.ct_views.proofs.words.steps_command.Goals as goal

pub returns : goal.returns
returns c =
    let file = with_option _ _ _ _ _ c.in_ok-arg.ensures c.file_argument.ensures.local c.subcommand.ensures c.file_argument.ensures.rule in
    let from = with_option _ _ _ _ _ c.in_ok-arg-2.ensures c.default_option.ensures.local file c.default_option.ensures.rule in
    let to_local = ap (λ a. a.global) c.hide_default_value.ensures ∙ c.default_option-2.ensures.local in
    let to_is = ap rule_of c.hide_default_value.ensures ∙ c.default_option-2.ensures.rule in
    let to = with_option _ _ _ _ _ c.in_ok-arg-3.ensures to_local from to_is in
    let member = with_option _ _ _ _ _ c.in_ok-arg-4.ensures c.value_option.ensures.local to c.value_option.ensures.rule in
    IfOk-weaker c.arg-5.result _ _ (λ r adds. with_option _ _ _ _ _ adds c.flag.ensures.local member c.flag.ensures.rule) c.arg-5.ensures
