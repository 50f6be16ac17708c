use Rattle.std.proofs.Common.{sym, ◌∙◌}
use Rattle.ct_model.specs.declared.step.Step.TheVariants.{Postpone, Lose}
use Rattle.ct_model.specs.Rehearsal.{line_of}
use Rattle.ct_model.proofs.Record.Causes.{cause-absent}
use Rattle.ct_model.proofs.Steps.LineSteps.{cause-postpone, cause-postpone-away, cause-lose, cause-lose-away}
use Rattle.ct_world.specs.Kept.{rehearsal_of}
use Rattle.ct_world.proofs.Basics.Places.{found_in, stands-there, stands-nowhere}
use Rattle.ct_world.proofs.Steps.Verdicts.{not_found}
use Rattle.ct_world.proofs.kept.Kept.find_waiting.Goals as goal

pub returns-in_err-actor : goal.returns-in_err-actor
returns-in_err-actor c =
    let w = rehearsal_of c.args.self.now in
    let p = c.args.member in
    let k = c.args.serial in
    let r = c.from_residual.result in
    let e = c.from_residual.ensures.1 in
    record {
      postponed = not_found c.args.self.now (Postpone p k) p k r e (cause-absent w (Postpone p k) _ c.in_err-actor.ensures);
      lost = not_found c.args.self.now (Lose p k) p k r e (cause-absent w (Lose p k) _ c.in_err-actor.ensures);
    }

pub returns-in_default : goal.returns-in_default
returns-in_default c =
    let w = rehearsal_of c.args.self.now in
    let present = c.in_ok-actor.ensures.present in
    let away = stands-nowhere c.args.serial (line_of w c.args.member) (c.in_default.ensures
    ∙ found_in c.args.member c.args.serial c.requires present.in_group) in
    record {
      postponed = cause-postpone-away w c.args.member c.args.serial present away;
      lost = cause-lose-away w c.args.member c.args.serial present away;
    }

pub returns-in_err-overflow : goal.returns-in_err-overflow
returns-in_err-overflow c =
    let w = rehearsal_of c.args.self.now in
    let p = c.args.member in
    let k = c.args.serial in
    let actor = c.in_ok-actor.ensures in
    let there = stands-there k (line_of w p) (sym (found_in p k c.requires actor.present.in_group) ∙ sym c.in-Some.ensures) in
    let r = c.from_residual-in_err-overflow.result in
    let e = c.from_residual-in_err-overflow.ensures.1 in
    record {
      postponed = not_found c.args.self.now (Postpone p k) p k r e
          (cause-postpone w p k actor.lawful actor.present there ∙ c.in_err-overflow.ensures);
      lost = not_found c.args.self.now (Lose p k) p k r e
          (cause-lose w p k actor.lawful actor.present there ∙ c.in_err-overflow.ensures);
    }

pub returns : goal.returns
returns c =
    let w = rehearsal_of c.args.self.now in
    let p = c.args.member in
    let k = c.args.serial in
    let actor = c.in_ok-actor.ensures in
    let stands = sym (found_in p k c.requires actor.present.in_group) ∙ sym c.in-Some.ensures in
    let there = stands-there k (line_of w p) stands in
    record {
      postponed = record { allowed = cause-postpone w p k actor.lawful actor.present there ∙ c.in_ok-overflow.ensures; placed = stands };
      lost = record { allowed = cause-lose w p k actor.lawful actor.present there ∙ c.in_ok-overflow.ensures; placed = stands };
    }
