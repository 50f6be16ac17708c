use Rattle.std.proofs.Common.{ap, ◌∙◌}
use Rattle.std.proofs.lemmas.Result.{IfOk-weaker}
use Rattle.clap.specs.Words.{rule_of}
use Rattle.ct_streams.proofs.Options.{with_option}
use Rattle.ct_diagram.proofs.words.diagram_command.Goals as goal

pub returns : goal.returns
returns c =
    let file = with_option _ _ _ _ _ c.in_ok-arg.ensures c.file_argument.ensures.local c.subcommand.ensures c.file_argument.ensures.rule in
    let from = with_option _ _ _ _ _ c.in_ok-arg-2.ensures c.default_option.ensures.local file c.default_option.ensures.rule in
    let to = with_option _ _ _ _ _ c.in_ok-arg-3.ensures
    (ap (λ a. a.global) c.hide_default_value.ensures ∙ c.default_option-2.ensures.local) from
    (ap rule_of c.hide_default_value.ensures ∙ c.default_option-2.ensures.rule) in
    let columns = with_option _ _ _ _ _ c.in_ok-arg-4.ensures c.default_option-3.ensures.local to c.default_option-3.ensures.rule in
    let member = with_option _ _ _ _ _ c.in_ok-arg-5.ensures c.value_option.ensures.local columns c.value_option.ensures.rule in
    IfOk-weaker c.arg-6.result _ _
    (λ r adds. with_option _ _ _ _ _ adds c.value_option-2.ensures.local member c.value_option-2.ensures.rule) c.arg-6.ensures
