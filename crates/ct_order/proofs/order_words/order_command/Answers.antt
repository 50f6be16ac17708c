use Rattle.std.proofs.lemmas.Result.{IfOk-weaker}
use Rattle.ct_streams.proofs.Options.{with_option}
use Rattle.ct_order.proofs.order_words.order_command.Goals as goal

pub returns : goal.returns
returns c =
    let logs = with_option _ _ _ _ _ c.in_ok-arg.ensures c.files_argument.ensures.local c.subcommand.ensures
    c.files_argument.ensures.rule in
    let settled = with_option _ _ _ _ _ c.in_ok-arg-2.ensures c.flag.ensures.local logs c.flag.ensures.rule in
    let fifo = with_option _ _ _ _ _ c.in_ok-arg-3.ensures c.flag-2.ensures.local settled c.flag-2.ensures.rule in
    let json = with_option _ _ _ _ _ c.in_ok-arg-4.ensures c.flag-3.ensures.local fifo c.flag-3.ensures.rule in
    let schedule = with_option _ _ _ _ _ c.in_ok-arg-5.ensures c.in_ok-alone.ensures.local json c.in_ok-alone.ensures.rule in
    let all = with_option _ _ _ _ _ c.in_ok-arg-6.ensures c.in_ok-alone-2.ensures.local schedule c.in_ok-alone-2.ensures.rule in
    let follow = with_option _ _ _ _ _ c.in_ok-arg-7.ensures c.flag-4.ensures.local all c.flag-4.ensures.rule in
    IfOk-weaker c.arg-8.result _ _
    (λ r adds. with_option _ _ _ _ _ adds c.in_ok-idle_option.ensures.local follow c.in_ok-idle_option.ensures.rule) c.arg-8.ensures
