use Rattle.std.proofs.Common.{arith, string_bytes}
use Rattle.ct_play.specs.Faults.{IsShort}
use Rattle.ct_play.proofs.Faulty.{handed}
use Rattle.ct_listing.proofs.Growing.{IsNext, step_is, step_on, step_short}
use Rattle.ct_listing.proofs.lines.push_step.Goals as goal

pub returns-in_err-play-clause-err : goal.returns-in_err-play-clause-err
returns-in_err-play-clause-err c =
    let next : IsNext c.args.stage.now c.member.result c.act_of.result c.args.step = record {
      lone = c.act_of.ensures.lone;
      fits = c.act_of.ensures.fits;
      member = omega arith;
      step_is = rw c.member.ensures c.act_of.ensures.step;
      allowed = c.requires.allowed;
    } in
    handed IsShort c.from_residual.result c.in_err-play.field-0.0 c.from_residual.ensures.1
    (step_short (string_bytes c.args.text.now) c.args.stage.now c.member.result c.act_of.result c.args.step c.in_err-play.field-0.0
    c.requires.leads next c.in_err-play.ensures.err)

pub returns-clause-leads : goal.returns-clause-leads
returns-clause-leads c =
    let next : IsNext c.args.stage.now c.member.result c.act_of.result c.args.step = record {
      lone = c.act_of.ensures.lone;
      fits = c.act_of.ensures.fits;
      member = omega arith;
      step_is = rw c.member.ensures c.act_of.ensures.step;
      allowed = c.requires.allowed;
    } in
    step_on (string_bytes c.args.text.now) (string_bytes c.push_told.new.text) c.args.stage.now c.play.new.stage c.member.result
    c.act_of.result c.args.step c.requires.leads next c.in_ok-push_told.ensures c.in_ok-play.ensures.ok

pub returns-clause-step : goal.returns-clause-step
returns-clause-step c =
    let next : IsNext c.args.stage.now c.member.result c.act_of.result c.args.step = record {
      lone = c.act_of.ensures.lone;
      fits = c.act_of.ensures.fits;
      member = omega arith;
      step_is = rw c.member.ensures c.act_of.ensures.step;
      allowed = c.requires.allowed;
    } in
    step_is (string_bytes c.args.text.now) c.args.stage.now c.play.new.stage c.member.result c.act_of.result c.args.step c.requires.leads
    next
    c.in_ok-play.ensures.ok
