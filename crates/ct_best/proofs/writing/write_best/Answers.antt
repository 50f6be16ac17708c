use Rattle.std.proofs.Common.{◌∙◌, refl}
use Rattle.ct_best.proofs.Bests.{best_none, none_first}
use Rattle.ct_best.proofs.writing.write_best.Goals as goal

pub returns-in_default-clause-none : goal.returns-in_default-clause-none
returns-in_default-clause-none g c =
    let o = c.args.call.options in
    let target = c.args.call.goal in
    let hits = c.deref.result.now in
    let none = best_none o target c.args.best.now.shrink hits c.in_ok-made.made.0.items c.in_ok-made.made.1 c.in_default.is
    c.in_ok-made.ensures.walks c.in_ok-made.ensures.best in (
      none_first o target c.args.call.seeds c.args.best.now.count hits (c.deref.ensures.value ∙ c.in_ok-hits.ensures.hits) none
          c.requires.some,
      refl,
      refl,
    )
