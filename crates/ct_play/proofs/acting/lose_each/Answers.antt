use Rattle.std.proofs.Common.{ℕ, arith}
use Rattle.ct_model.specs.declared.step.Step.TheVariants.{Lose}
use Rattle.ct_play.specs.Acting.{after_losses, after_step}
use Rattle.ct_play.specs.Faults.{IsFaultOf}
use Rattle.ct_play.specs.Played.{Played}
use Rattle.ct_play.proofs.Faulty.{handed}
use Rattle.ct_play.proofs.Folding.{each_failed}
use Rattle.ct_play.proofs.acting.lose_each.Goals as goal

pub returns-in_err-take-clause-err : goal.returns-in_err-take-clause-err
returns-in_err-take-clause-err c =
    let p = c.args.member in
    let ks = c.args.serials.now in
    let fault = c.in_err-take.field-0.0 in
    handed (IsFaultOf (after_losses p c.args.stage.now ks)) c.from_residual.result fault c.from_residual.ensures.1
    (each_failed (λ (t : Played) (k : ℕ). after_step t (Lose p k)) c.args.stage.now c.loop-serial.stage ks c.loop-serial.serial-index 0
    fault (omega (arith, c.loop-serial-test.true)) c.loop-serial.invariant.so_far c.in_err-take.ensures.err)
