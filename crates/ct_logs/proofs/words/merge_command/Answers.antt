use Rattle.std.proofs.lemmas.Result.{IfOk-weaker}
use Rattle.ct_streams.proofs.Options.{with_option}
use Rattle.ct_logs.proofs.words.merge_command.Goals as goal

pub returns : goal.returns
returns c =
    let logs =
    with_option _ _ _ _ _ c.in_ok-arg.ensures c.files_argument.ensures.local c.subcommand.ensures c.files_argument.ensures.rule in
    let kept = with_option _ _ _ _ _ c.in_ok-arg-2.ensures c.flag.ensures.local logs c.flag.ensures.rule in
    let presumed = with_option _ _ _ _ _ c.in_ok-arg-3.ensures c.in_ok-presume.ensures.local kept c.in_ok-presume.ensures.rule in
    let follow = with_option _ _ _ _ _ c.in_ok-arg-4.ensures c.flag-2.ensures.local presumed c.flag-2.ensures.rule in
    IfOk-weaker c.arg-5.result _ _
    (λ r adds. with_option _ _ _ _ _ adds c.in_ok-idle_option.ensures.local follow c.in_ok-idle_option.ensures.rule) c.arg-5.ensures
