use Rattle.std.proofs.Common.{ap, ◌∙◌, arith, true, false, get_or, refl}
use Rattle.std.proofs.lemmas.List.Elements.{All-nil, All-push, All-same}
use Rattle.std.proofs.lemmas.Option.{slice_get-get_or}
use Rattle.ct_names.specs.declared.command.Command.TheVariants.{Set}
use Rattle.ct_model.specs.Cause.{cause}
use Rattle.ct_model.specs.declared.step.Step.{Step}
use Rattle.ct_model.specs.declared.step.Step.TheVariants.{Submit}
use Rattle.ct_play.specs.Goals.{shows}
use Rattle.ct_play.specs.Played.{Played}
use Rattle.ct_shrink.specs.Naming.{IsByContent}
use Rattle.ct_shrink.proofs.Beginning.{never_begun, none_begun, one_begun, shown_begun}
use Rattle.ct_shrink.proofs.Leading.{looked_for}
use Rattle.ct_shrink.proofs.first_run.first_lines.Goals as goal

pub loop-i-init : goal.loop-i-init
loop-i-init c = record {
  goal = c.requires.goal;
  begun = none_begun (shows c.args.goal.now) c.args.setup.now c.args.steps.now c.new-lines.result.items c.args.watch.now.played
      c.requires.played c.new-lines.ensures.items;
  named = All-same IsByContent _ _ c.new-lines.ensures.items (All-nil IsByContent);
}

pub returns-then-shows-clause-first : goal.returns-then-shows-clause-first
returns-then-shows-clause-first c =
    let s = c.loop-i.watch.played in
    shown_begun (shows c.args.goal.now) c.args.setup.now c.args.steps.now c.loop-i.lines.items c.loop-i.i s
    (omega (arith, c.loop-i-test.true))
    (looked_for c.loop-i.watch.goal c.args.goal.now s true c.if-shows.ensures c.loop-i.invariant.goal) c.loop-i.invariant.begun

pub step_by-requires : goal.step_by-requires
step_by-requires c =
    let step : Step = get_or c.args.steps.now c.loop-i.i (Submit 0 (Set 0 0)) in
    ap (λ (t : Played). cause t.rehearsal step) c.loop-i.invariant.begun.stage
    ∙ c.requires.steps c.loop-i.i step c.loop-i-test.true
    (slice_get-get_or c.args.steps.now c.loop-i.i (Submit 0 (Set 0 0)) c.loop-i-test.true)

pub loop-i-preserved : goal.loop-i-preserved
loop-i-preserved c =
    let s = c.loop-i.watch.played in
    let step : Step = get_or c.args.steps.now c.loop-i.i (Submit 0 (Set 0 0)) in
    record {
      goal = c.in_ok-line.ensures.goal ∙ c.loop-i.invariant.goal;
      begun = one_begun (shows c.args.goal.now) c.args.setup.now c.args.steps.now c.loop-i.lines.items
          c.push_line.new.lines.items c.loop-i.i
          (Submit 0 (Set 0 0)) step c.in_ok-line.line s c.step_by.new.watch.played c.loop-i-test.true refl
          (looked_for c.loop-i.watch.goal c.args.goal.now s false c.if-shows.ensures c.loop-i.invariant.goal) c.loop-i.invariant.begun
          c.in_ok-push_line.ensures c.in_ok-line.ensures.line c.in_ok-line.ensures.step;
      named = All-same IsByContent _ _ c.in_ok-push_line.ensures
          (All-push IsByContent c.loop-i.lines.items c.in_ok-line.line c.loop-i.invariant.named c.in_ok-line.ensures.named);
    }

pub returns-then-shows-2-clause-first : goal.returns-then-shows-2-clause-first
returns-then-shows-2-clause-first c =
    let s = c.loop-i.watch.played in
    shown_begun (shows c.args.goal.now) c.args.setup.now c.args.steps.now c.loop-i.lines.items c.loop-i.i s c.loop-i.auto.i-end
    (looked_for c.loop-i.watch.goal c.args.goal.now s true c.if-shows-2.ensures c.loop-i.invariant.goal) c.loop-i.invariant.begun

pub returns-else-shows-2-clause-first : goal.returns-else-shows-2-clause-first
returns-else-shows-2-clause-first c =
    let s = c.loop-i.watch.played in
    never_begun (shows c.args.goal.now) c.args.setup.now c.args.steps.now c.loop-i.lines.items c.loop-i.i s c.loop-i-test.false
    (looked_for c.loop-i.watch.goal c.args.goal.now s false c.if-shows-2.ensures c.loop-i.invariant.goal) c.loop-i.invariant.begun
