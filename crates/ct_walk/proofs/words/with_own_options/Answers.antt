use Rattle.std.proofs.Common.{refl}
use Rattle.std.proofs.lemmas.Result.{IfOk-weaker}
use Rattle.ct_streams.proofs.Options.{with_option}
use Rattle.ct_walk.proofs.words.with_own_options.Goals as goal

pub returns : goal.returns
returns c =
    let every = with_option _ _ _ _ _ c.in_ok-arg.ensures c.own.ensures.local refl c.own.ensures.rule in
    let scatter = with_option _ _ _ _ _ c.in_ok-arg-2.ensures c.own-2.ensures.local every c.own-2.ensures.rule in
    let lasting = with_option _ _ _ _ _ c.in_ok-arg-3.ensures c.own-3.ensures.local scatter c.own-3.ensures.rule in
    let crashes = with_option _ _ _ _ _ c.in_ok-arg-4.ensures c.own-4.ensures.local lasting c.own-4.ensures.rule in
    IfOk-weaker c.arg-5.result _ _ (λ r adds. with_option _ _ _ _ _ adds c.own-5.ensures.local crashes c.own-5.ensures.rule)
    c.arg-5.ensures
