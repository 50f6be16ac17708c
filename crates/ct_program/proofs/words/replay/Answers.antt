use Rattle.std.proofs.lemmas.Result.{IfOk-weaker}
use Rattle.ct_streams.proofs.Options.{with_option}
use Rattle.ct_program.proofs.words.replay.Goals as goal

pub returns : goal.returns
returns c =
    IfOk-weaker c.arg.result _ _ (λ r adds. with_option _ _ _ _ _ adds c.file_argument.ensures.local c.subcommand.ensures
    c.file_argument.ensures.rule) c.arg.ensures
