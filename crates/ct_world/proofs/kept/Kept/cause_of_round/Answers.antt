use Rattle.std.proofs.Common.{sym, ◌∙◌, ap}
use Rattle.ct_model.specs.Cause.{overflow}
use Rattle.ct_world.proofs.Steps.Rounds.{round_absent, round_cause, round_free}
use Rattle.ct_world.specs.Kept.{rehearsal_of}
use Rattle.ct_world.proofs.Steps.Verdicts.{refused, verdict_by}
use Rattle.ct_world.proofs.kept.Kept.cause_of_round.Goals as goal

pub returns-in_err-seat : goal.returns-in_err-seat
returns-in_err-seat c =
    refused c.from_residual.result c.from_residual.ensures.1
    (round_absent (rehearsal_of c.args.self.now) c.args.member c.args.action _ c.in_err-seat.ensures)

pub returns-in-Some : goal.returns-in-Some
returns-in-Some c = round_cause c.args.action c.in_ok-seat.ensures c.in-Some.ensures

pub returns-then-passes_rounds : goal.returns-then-passes_rounds
returns-then-passes_rounds c =
    round_free c.args.action c.in_ok-seat.ensures (sym c.if-passes_rounds.true ∙ c.passes_rounds.ensures) c.in_default.ensures

pub returns : goal.returns
returns c =
    verdict_by c.overflow.result
    (round_free c.args.action c.in_ok-seat.ensures (sym c.if-passes_rounds.false ∙ c.passes_rounds.ensures) c.in_default.ensures
    ∙ sym (ap (overflow (rehearsal_of c.args.self.now)) c.sent.ensures.value))
    c.overflow.ensures
