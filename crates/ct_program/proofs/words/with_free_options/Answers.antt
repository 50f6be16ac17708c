use Rattle.std.proofs.Common.{◌∙◌, ap}
use Rattle.std.specs.Prelude.{fold}
use Rattle.std.proofs.lemmas.Result.{IfOk-weaker}
use Rattle.clap.specs.Words.{with_rule}
use Rattle.ct_program.specs.Line.{other_rules}
use Rattle.ct_streams.proofs.Options.{with_option}
use Rattle.ct_program.proofs.words.with_free_options.Goals as goal

pub returns : goal.returns
returns c =
    let seed = with_option _ _ _ _ _ c.in_ok-arg.ensures c.default_option-seed.ensures.local c.in_ok-command.ensures
    c.default_option-seed.ensures.rule in
    IfOk-weaker c.with_options.result _ _ (λ r longer. longer ∙ ap (λ app. fold with_rule app other_rules) seed) c.with_options.ensures
