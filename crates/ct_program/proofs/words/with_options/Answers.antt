use Rattle.std.proofs.Common.{◌∙◌, sym}
use Rattle.std.proofs.lemmas.List.Sums.{fold_more}
use Rattle.ct_streams.proofs.Options.{with_option}
use Rattle.ct_program.proofs.words.with_options.Goals as goal

pub loop-name-preserved : goal.loop-name-preserved
loop-name-preserved c =
    with_option _ _ _ _ _ c.in_ok-command.ensures c.default_option.ensures.local c.loop-name.invariant c.default_option.ensures.rule
    ∙ sym (fold_more _ _ _ _ _ c.loop-name-test.true)
