use Rattle.std.proofs.Common.{◌≡◌, true, sym, ap, ◌∙◌}
use Rattle.std.specs.Prelude.{is_some}
use Rattle.ct_model.specs.declared.step.Step.TheVariants.{Repeat}
use Rattle.ct_model.specs.Lawful.{is_waiting}
use Rattle.ct_model.specs.Next.{wire_to}
use Rattle.ct_model.specs.Rehearsal.{state_of, line_of}
use Rattle.ct_model.proofs.Basics.Tests.{number_same, number_other}
use Rattle.ct_model.proofs.Record.Causes.{cause-absent}
use Rattle.ct_model.proofs.Steps.LineSteps.{cause-repeat, cause-repeat-unsent, cause-repeat-waiting}
use Rattle.ct_world.proofs.Basics.Places.{found_in, is_some-position}
use Rattle.ct_world.proofs.Basics.Waits.{sent_to}
use Rattle.ct_world.specs.Kept.{rehearsal_of}
use Rattle.ct_world.proofs.Steps.Verdicts.{refused, verdict_by}
use Rattle.ct_world.proofs.kept.Kept.cause_of_repeat.Goals as goal
use Rattle.ct_world.proofs.kept.Kept.cause_of_repeat.Goals.{After-is_some}

pub returns-in_err-actor : goal.returns-in_err-actor
returns-in_err-actor c =
    refused c.from_residual.result c.from_residual.ensures.1
    (cause-absent (rehearsal_of c.args.self.now) (Repeat c.args.member c.args.serial) _ c.in_err-actor.ensures)

pub returns-in_default : goal.returns-in_default
returns-in_default c =
    cause-repeat-unsent (rehearsal_of c.args.self.now) c.args.member c.args.serial c.in_ok-actor.ensures.present
    (sent_to c.args.member c.args.serial c.requires
    (sym c.in_default.is ∙ c.envelope.ensures))

pub returns-then-envelope-member : goal.returns-then-envelope-member
returns-then-envelope-member c =
    cause-repeat-unsent (rehearsal_of c.args.self.now) c.args.member c.args.serial c.in_ok-actor.ensures.present
    (sent_to c.args.member c.args.serial c.requires (sym c.in-Some.is ∙ c.envelope.ensures)
    ∙ number_other c.in-Some.envelope.to c.args.member c.if-envelope-member.true)

-- it was sent to the member
sent : (c : After-is_some) → is_some (wire_to (state_of (rehearsal_of c.args.self.now)) c.args.member c.args.serial) ≡ true
sent c =
    sent_to c.args.member c.args.serial c.requires (sym c.in-Some.is ∙ c.envelope.ensures)
    ∙ number_same c.in-Some.envelope.to c.args.member c.if-envelope-member.false

-- and waits there where it is found
waits : (c : After-is_some) → is_waiting (rehearsal_of c.args.self.now) c.args.member c.args.serial ≡ c.is_some.result
waits c =
    sym (c.is_some.ensures
    ∙ ap is_some (c.find.ensures ∙ found_in c.args.member c.args.serial c.requires
    c.in_ok-actor.ensures.present.in_group)
    ∙ is_some-position _ (line_of (rehearsal_of c.args.self.now) c.args.member))

pub returns-then-is_some : goal.returns-then-is_some
returns-then-is_some c =
    let at = (goal.at.returns-then-is_some c).After-is_some in
    cause-repeat-waiting (rehearsal_of c.args.self.now) c.args.member c.args.serial c.in_ok-actor.ensures.present (sent at)
    (waits at ∙ c.if-is_some.true)

pub returns : goal.returns
returns c =
    let at = (goal.at.returns c).After-is_some in
    verdict_by c.overflow.result
    (cause-repeat (rehearsal_of c.args.self.now) c.args.member c.args.serial c.in_ok-actor.ensures.present c.in_ok-actor.ensures.lawful
    (sent at) (waits at ∙ c.if-is_some.false))
    c.overflow.ensures
