use Rattle.std.proofs.lemmas.Result.{IfOk-weaker}
use Rattle.ct_streams.proofs.Options.{with_option}
use Rattle.ct_shrink.proofs.words.shrink_command.Goals as goal

pub returns : goal.returns
returns c =
    let wanted = with_option _ _ _ _ _ c.in_ok-arg.ensures c.goal.ensures.local c.subcommand.ensures c.goal.ensures.rule in
    let tries = with_option _ _ _ _ _ c.in_ok-arg-2.ensures c.tries.ensures.local wanted c.tries.ensures.rule in
    let kept = with_option _ _ _ _ _ c.in_ok-arg-3.ensures c.flag.ensures.local tries c.flag.ensures.rule in
    let quiet = with_option _ _ _ _ _ c.in_ok-arg-4.ensures c.flag-2.ensures.local kept c.flag-2.ensures.rule in
    IfOk-weaker c.arg-5.result _ _
    (λ r adds. with_option _ _ _ _ _ adds c.file_argument.ensures.local quiet c.file_argument.ensures.rule) c.arg-5.ensures
