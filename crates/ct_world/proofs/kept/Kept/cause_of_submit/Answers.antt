use Rattle.std.proofs.Common.{ap, sym, ◌∙◌, arith}
use Rattle.ct_model.specs.declared.step.Step.TheVariants.{Submit}
use Rattle.ct_model.specs.Cause.{overflow}
use Rattle.ct_model.proofs.Record.Causes.{cause-absent}
use Rattle.ct_model.proofs.Steps.Submit.{cause-submit-bad, cause-submit-full, cause-submit-sends}
use Rattle.ct_world.specs.Kept.{rehearsal_of}
use Rattle.ct_world.proofs.Steps.Verdicts.{refused, verdict_by}
use Rattle.ct_world.proofs.kept.Kept.cause_of_submit.Goals as goal

pub returns-in_err-seat : goal.returns-in_err-seat
returns-in_err-seat c =
    refused c.from_residual.result c.from_residual.ensures.1
    (cause-absent (rehearsal_of c.args.self.now) (Submit c.args.member c.args.command.now) _ c.in_err-seat.ensures)

pub returns-then-not-good : goal.returns-then-not-good
returns-then-not-good c =
    cause-submit-bad (rehearsal_of c.args.self.now) c.args.member c.args.command.now c.in_ok-seat.ensures.lawful
    c.in_ok-seat.ensures.present (sym c.good.ensures ∙ c.if-not-good.true)

pub returns-then-seat-ge-MAX_SUBMISSIONS : goal.returns-then-seat-ge-MAX_SUBMISSIONS
returns-then-seat-ge-MAX_SUBMISSIONS c =
    let actor = c.in_ok-seat.ensures in
    let count = actor.sits.submitted in
    cause-submit-full (rehearsal_of c.args.self.now) c.args.member c.args.command.now actor.lawful actor.present
    (sym c.good.ensures ∙ c.if-not-good.false) (omega (arith, c.if-seat-ge-MAX_SUBMISSIONS.true))

pub returns : goal.returns
returns c =
    let w = rehearsal_of c.args.self.now in
    let actor = c.in_ok-seat.ensures in
    let count = actor.sits.submitted in
    verdict_by c.overflow.result
    (cause-submit-sends w c.args.member c.args.command.now actor.lawful actor.present (sym c.good.ensures ∙ c.if-not-good.false)
    (omega (arith, c.if-seat-ge-MAX_SUBMISSIONS.false))
    ∙ sym (ap (overflow w) (c.len.ensures ∙ c.args.self.now.seats.ok.0 ∙ c.requires.seated)))
    c.overflow.ensures
