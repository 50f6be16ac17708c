use Rattle.std.proofs.Common.{refl}
use Rattle.std.proofs.lemmas.Result.{IfOk-weaker}
use Rattle.ct_streams.proofs.Options.{with_option}
use Rattle.ct_find.proofs.words.with_best_options.Goals as goal

pub returns : goal.returns
returns c =
    let best = with_option _ _ _ _ _ c.in_ok-arg.ensures c.in_ok-best_arg.ensures.local refl c.in_ok-best_arg.ensures.rule in
    let tries = with_option _ _ _ _ _ c.in_ok-arg-2.ensures c.in_ok-tries_arg.ensures.local best c.in_ok-tries_arg.ensures.rule in
    IfOk-weaker c.arg-3.result _ _
    (λ r adds. with_option _ _ _ _ _ adds c.in_ok-asking_flag.ensures.local tries c.in_ok-asking_flag.ensures.rule) c.arg-3.ensures
