use Rattle.std.proofs.Common.{Some, ap, refl, subst, List}
use Rattle.std.specs.List.{AllZip}
use Rattle.std.proofs.lemmas.List.{take_all}
use Rattle.ct_find.specs.declared.hit.Hit.{Hit}
use Rattle.ct_best.specs.Best.{run_of, FailsOnOne, IsToldOf}
use Rattle.ct_best.specs.declared.fault.BestFault.TheVariants.{Walk}
use Rattle.ct_best.proofs.Bests.{handed, one_fails, short_fails}
use Rattle.ct_best.proofs.Smallest.{best_more, walks_more}
use Rattle.ct_best.proofs.shrinking.best_of.Goals as goal

pub returns-in_err-left-clause-err : goal.returns-in_err-left-clause-err
returns-in_err-left-clause-err g c =
    handed (FailsOnOne c.args.options.now c.args.goal.now c.args.hits.now) c.from_residual.result c.in_err-left.field-0.0
    c.from_residual.ensures.1
    (one_fails c.args.options.now c.args.goal.now c.args.hits.now c.loop-hit.hit-index _ _ c.loop-hit-test.true c.in_err-left.ensures.err)

pub returns-in_err-push_walk-clause-err : goal.returns-in_err-push_walk-clause-err
returns-in_err-push_walk-clause-err g c =
    let fault = c.in_err-push_walk.field-0.0 in
    handed (FailsOnOne c.args.options.now c.args.goal.now c.args.hits.now) c.from_residual-in_err-push_walk.result (Walk fault)
    c.from_residual-in_err-push_walk.ensures.1
    (short_fails c.args.options.now c.args.goal.now c.args.hits.now c.loop-hit.hit-index fault c.loop-hit-test.true
    c.in_err-push_walk.ensures.err)

pub loop-hit-preserved : goal.loop-hit-preserved
loop-hit-preserved g c =
    let o = c.args.options.now in
    let target = c.args.goal.now in
    let run = run_of c.in_ok-left.left in
    record {
      walks = walks_more o target c.args.shrink.now c.args.hits.now c.loop-hit.hit-index _ _ c.loop-hit.walks.items
          c.push_walk.new.walks.items run c.loop-hit-test.true refl c.loop-hit.invariant.walks c.in_ok-left.ensures.ok
          c.in_ok-push_walk.ensures.ok;
      best = best_more o target c.args.shrink.now c.loop-hit.walks.items c.push_walk.new.walks.items c.loop-hit.best
          (Some c.smaller_of.result) run c.in_ok-push_walk.ensures.ok c.loop-hit.invariant.best (c.in_ok-left.ensures.ok).smaller
          (ap Some c.smaller_of.ensures);
    }

pub returns-clause-walks : goal.returns-clause-walks
returns-clause-walks g c =
    subst (λ (l : List Hit). AllZip (IsToldOf c.args.options.now c.args.goal.now c.args.shrink.now) l c.loop-hit.walks.items)
    (take_all c.loop-hit.hit-index c.args.hits.now c.loop-hit-test.false) c.loop-hit.invariant.walks
