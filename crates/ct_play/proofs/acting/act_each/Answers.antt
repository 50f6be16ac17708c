use Rattle.std.proofs.Common.{arith}
use Rattle.ct_play.specs.Acting.{done_by, done_by_each}
use Rattle.ct_play.specs.Faults.{IsFaultOf}
use Rattle.ct_play.proofs.Faulty.{handed}
use Rattle.ct_play.proofs.Folding.{each_failed}
use Rattle.ct_play.proofs.acting.act_each.Goals as goal

pub returns-in_err-act_as-clause-err : goal.returns-in_err-act_as-clause-err
returns-in_err-act_as-clause-err c =
    let who = c.args.who.now in
    let act = c.args.act.now in
    let ps = c.args.members.now in
    let fault = c.in_err-act_as.field-0.0 in
    handed (IsFaultOf (done_by_each who act c.args.stage.now ps)) c.from_residual.result fault c.from_residual.ensures.1
    (each_failed (done_by who act) c.args.stage.now c.loop-member.stage ps c.loop-member.member-index 0 fault
    (omega (arith, c.loop-member-test.true)) c.loop-member.invariant.so_far c.in_err-act_as.ensures.err)
