use Rattle.std.proofs.Common.{ap, false, ◌∙◌}
use Rattle.std.proofs.lemmas.Result.{IfOk-weaker}
use Rattle.clap.specs.Words.{Rule}
use Rattle.ct_streams.proofs.Asking.{asks_rule}
use Rattle.ct_streams.proofs.following.idle_option.Goals as goal

pub returns-clause-rule : goal.returns-clause-rule
returns-clause-rule c = IfOk-weaker c.requires_arg.result _ _ (λ idle adds. asks_rule c.seconds.result idle _ adds
    ∙ ap (λ (rule : Rule). record rule { is_free = false }) c.seconds.ensures.rule) c.requires_arg.ensures
