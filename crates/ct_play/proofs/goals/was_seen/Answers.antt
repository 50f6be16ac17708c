use Rattle.std.proofs.Common.{◌∙◌, ◌≡◌, ◌+◌, ap, sym, arith, not, Bool}
use Rattle.std.specs.Prelude.{◌||◌}
use Rattle.ct_model.specs.Rehearsal.{Rehearsal}
use Rattle.ct_play.specs.Goals.{holds_at}
use Rattle.ct_play.specs.Played.{Played, first_part}
use Rattle.ct_play.proofs.Results.{from_ok}
use Rattle.ct_play.proofs.Seeing.{part_next, seen_first, seen_more}
use Rattle.ct_play.proofs.goals.was_seen.Goals as goal

pub loop-i-init : goal.loop-i-init
loop-i-init c = record {
  part = c.in-Ok.ensures.ok;
  so_far =
      c.holds_at-seen.ensures
      ∙ (ap (λ (u : Played). holds_at u c.args.term.now) c.in-Ok.ensures.ok ∙ sym (seen_first c.args.stage.now c.args.term.now));
}

pub loop-i-preserved : goal.loop-i-preserved
loop-i-preserved c =
    let s = c.args.stage.now in
    let part : c.step.new.self ≡ first_part s (c.loop-i.i + 1) =
    part_next s c.loop-i.part c.step.new.self c.record-step-items.result.now c.loop-i.i _
    (c.record-step-items.ensures.value ∙ ap (λ (w : Rehearsal). w.steps) c.world.ensures)
    (omega (arith, c.loop-i-test.true)) c.loop-i.invariant.part
    (from_ok c.step.result (c.is_err.ensures.negation ∙ ap not c.if-is_err.false) c.step.ensures.joined) in
    record {
      part = part;
      so_far =
          c.still_seen-seen.ensures
          ∙ (ap (λ (b : Bool). b || holds_at c.step.new.self c.args.term.now) c.loop-i.invariant.so_far
          ∙ sym (seen_more s c.step.new.self c.args.term.now c.loop-i.i part));
    }
