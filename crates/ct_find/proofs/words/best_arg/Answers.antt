use Rattle.std.proofs.Common.{ap, false, ◌∙◌}
use Rattle.std.proofs.lemmas.Result.{IfOk-weaker}
use Rattle.clap.specs.Words.{Rule, rule_of}
use Rattle.ct_streams.proofs.Asking.{bars_rule}
use Rattle.ct_find.proofs.words.best_arg.Goals as goal

pub returns-clause-rule : goal.returns-clause-rule
returns-clause-rule c = IfOk-weaker c.conflicts_with.result _ _ (λ best bars. bars_rule c.value_name.result best _ bars
    ∙ ap (λ (rule : Rule). record rule { is_free = false })
    (ap rule_of c.value_name.ensures ∙ ap (λ (rule : Rule). record rule { value_names = 1 }) c.value_option.ensures.rule))
    c.conflicts_with.ensures
