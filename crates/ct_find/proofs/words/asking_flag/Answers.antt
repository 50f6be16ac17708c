use Rattle.std.proofs.Common.{ap, false, ◌∙◌}
use Rattle.std.proofs.lemmas.Result.{IfOk-weaker}
use Rattle.clap.specs.Words.{Rule}
use Rattle.ct_streams.proofs.Asking.{asks_rule}
use Rattle.ct_find.proofs.words.asking_flag.Goals as goal

pub returns-clause-rule : goal.returns-clause-rule
returns-clause-rule c = IfOk-weaker c.requires_arg.result _ _ (λ option adds. asks_rule c.flag.result option _ adds
    ∙ ap (λ (rule : Rule). record rule { is_free = false }) c.flag.ensures.rule) c.requires_arg.ensures
