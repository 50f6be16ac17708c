use Rattle.std.proofs.Common.{refl, subst}
use Rattle.ct_model.specs.Rehearsal.{Rehearsal}
use Rattle.ct_play.specs.Goals.{shows}
use Rattle.ct_shrink.specs.Writing.{IsFaultOn, IsSmallerText}
use Rattle.ct_best.specs.declared.fault.BestFault.TheVariants.{Shrink}
use Rattle.ct_best.specs.Best.{FailsOn}
use Rattle.ct_best.proofs.Bests.{handed}
use Rattle.ct_best.proofs.shrinking.left_of.Goals as goal

pub returns-in_err-smaller-clause-err : goal.returns-in_err-smaller-clause-err
returns-in_err-smaller-clause-err g c =
    let fault = c.in_err-smaller.field-0.0 in
    handed (FailsOn c.args.options.now c.args.goal.now c.args.hit) c.from_residual-in_err-smaller.result (Shrink fault)
    c.from_residual-in_err-smaller.ensures.1
    (subst (λ (w : Rehearsal). IsFaultOn (shows c.args.goal.now) w fault) c.in_ok-script.ensures.ok c.in_err-smaller.ensures.fault)

pub returns-clause-ok : goal.returns-clause-ok
returns-clause-ok g c = record {
  seed = refl;
  smaller = subst (λ (w : Rehearsal). IsSmallerText (shows c.args.goal.now) c.args.goal.now c.args.shrink.now w
      c.in_ok-smaller.smaller.summary c.in_ok-smaller.smaller.text.items) c.in_ok-script.ensures.ok c.in_ok-smaller.ensures.ok;
}
