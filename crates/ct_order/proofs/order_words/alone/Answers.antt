use Rattle.std.proofs.Common.{ap, false, ◌∙◌}
use Rattle.std.proofs.lemmas.Result.{IfOk-weaker}
use Rattle.clap.specs.Words.{Rule}
use Rattle.ct_streams.proofs.Asking.{bars_rule}
use Rattle.ct_order.proofs.order_words.alone.Goals as goal

pub returns-clause-rule : goal.returns-clause-rule
returns-clause-rule c = IfOk-weaker c.conflicts_with.result _ _ (λ option bars. bars_rule c.flag.result option _ bars
    ∙ ap (λ (rule : Rule). record rule { is_free = false }) c.flag.ensures.rule) c.conflicts_with.ensures
