use Rattle.std.proofs.lemmas.Result.{IfOk-weaker}
use Rattle.ct_streams.proofs.Options.{with_option}
use Rattle.ct_views.proofs.words.check_command.Goals as goal

pub returns : goal.returns
returns c =
    let files =
    with_option _ _ _ _ _ c.in_ok-arg.ensures c.files_argument.ensures.local c.subcommand.ensures c.files_argument.ensures.rule in
    let reports = with_option _ _ _ _ _ c.in_ok-arg-2.ensures c.flag.ensures.local files c.flag.ensures.rule in
    IfOk-weaker c.arg-3.result _ _ (λ r adds. with_option _ _ _ _ _ adds c.flag-2.ensures.local reports c.flag-2.ensures.rule)
    c.arg-3.ensures
