use Rattle.std.proofs.Common.{◌≡◌, ◌+◌, ◌<◌, Some, refl, ap, ◌∙◌, drop, get_or, length, subst, take}
use Rattle.std.specs.Prelude.{slice_get, string_bytes}
use Rattle.ct_names.specs.declared.command.Command.TheVariants.{Set}
use Rattle.ct_model.specs.declared.step.Step.{Step}
use Rattle.ct_model.specs.declared.step.Step.TheVariants.{Submit}
use Rattle.ct_model.specs.Rehearsal.{Rehearsal, extended, state_of}
use Rattle.ct_model.specs.Run.{run}
use Rattle.ct_model.specs.Senders.{senders, senders_from}
use Rattle.ct_text.proofs.Tracing.{traced_more}
use Rattle.ct_world.specs.Replay.{AllowsFirst, IsFaultOf, first_steps}
use Rattle.ct_world.specs.Setup.{record_of, setting_of}
use Rattle.ct_world.specs.Stage.{ReplayView, so_far}
use Rattle.ct_world.specs.World.{IsDone, WorldView}
use Rattle.ct_diagram.specs.Diagram.{shades_layer, arrows_layer, marks_layer}
use Rattle.ct_diagram.specs.Sight.{glance_of}
use Rattle.ct_diagram.proofs.Stepping.{IsStep, handed_on, layer_more, left_first, trail_below, trail_more, trail_within}
use Rattle.ct_diagram.proofs.drawing.drawn.Goals as goal

-- what a place past the end of the steps would hold
abbrev no_step : Step
no_step = Submit 0 (Set 0 0)

pub loop-replay-init : goal.loop-replay-init
unfolding senders senders_from
loop-replay-init c =
    rw c.in_ok-replay.ensures.ok (record {
      whole = refl;
      senders = c.new-senders.ensures.items;
      trail = c.new-canvas.ensures.trail;
      shades = c.new-canvas.ensures.shades;
      arrows = c.new-canvas.ensures.arrows;
      marks = c.new-canvas.ensures.marks;
    })

pub returns-in_err-done-clause-err : goal.returns-in_err-done-clause-err
returns-in_err-done-clause-err c =
    let fault = c.in_err-done.field-0.0 in
    handed_on c.from_residual-in_err-done.result (record_of c.args.setup c.args.steps.now) fault
    (subst (λ (w : Rehearsal). IsFaultOf w.setting w.cells w.steps fault.at fault.refusal) c.loop-replay.invariant.whole
    c.in_err-done.ensures.err) c.from_residual-in_err-done.ensures.1

pub returns-clause-allowed : goal.returns-clause-allowed
returns-clause-allowed c =
    let whole = c.loop-replay.invariant.whole in
    let all : c.loop-replay.replay.done ≡ length c.args.steps.now =
    c.loop-replay-test.ensures.over refl ∙ ap (λ (w : Rehearsal). length w.steps) whole in
    subst (AllowsFirst (setting_of c.args.setup) c.args.setup.cells c.args.steps.now) all
    (subst (λ (w : Rehearsal). AllowsFirst w.setting w.cells w.steps c.loop-replay.replay.done) whole c.loop-replay-test.ensures.allowed)

pub loop-replay-preserved : goal.loop-replay-preserved
loop-replay-preserved c =
    let h = c.in_ok-done.ensures in
    let it = c.in_ok-done.done in
    let i = c.loop-replay.replay.done in
    let whole = c.loop-replay.invariant.whole in
    let window = c.args.window.now in
    let w = record_of c.args.setup c.args.steps.now in
    let base = first_steps w.setting w.cells w.steps i in
    let view = c.world-in-loop-replay.result.now.rehearsal in
    let left = c.left.result.now in
    let later = c.left-in-loop-replay.result.now in
    let seen = c.glance_of-seen.result in
    let old = c.loop-replay.canvas in
    let new = c.draw_next.new.canvas in
    let told = c.loop-replay.invariant in
    let more = c.in_ok-draw_next.ensures in
    let from = c.note.new.senders.items in
    let there : slice_get w.steps i ≡ Some it.step = subst (λ (r : Rehearsal). slice_get r.steps i ≡ Some it.step) whole h.step in
    let before : it.before ≡ length (state_of base).sent =
    subst (λ (r : Rehearsal). it.before ≡ length (state_of (first_steps r.setting r.cells r.steps i)).sent) whole h.before in
    let joined : view ≡ extended base it.step =
    ap (λ (v : WorldView). v.rehearsal) c.world-in-loop-replay.ensures ∙ h.done.joined
    ∙ ap (λ (r : Rehearsal). extended (first_steps r.setting r.cells r.steps i) it.step) whole in
    let rest : later ≡ drop (i + 1) w.steps =
    c.left-in-loop-replay.ensures ∙ ap (λ (v : ReplayView). drop v.done v.whole.steps) h.ok
    ∙ ap (λ (r : Rehearsal). drop (i + 1) r.steps) whole in
    let here : c.world.result.now.rehearsal ≡ base =
    ap (λ (v : WorldView). v.rehearsal) c.world.ensures ∙ ap (λ (r : Rehearsal). first_steps r.setting r.cells r.steps i) whole in
    let first : get_or left 0 no_step ≡ it.step =
    ap (λ l. get_or l 0 no_step) (c.left.ensures ∙ ap (λ (r : Rehearsal). drop i r.steps) whole)
    ∙ left_first w.steps i it.step no_step there in
    let glanced : seen ≡ glance_of base it.step =
    c.glance_of-seen.ensures ∙ ap (λ r. glance_of r (get_or left 0 no_step)) here ∙ ap (glance_of base) first in
    let next : IsDone (so_far c.loop-replay.replay) it.step (so_far (record c.loop-replay.replay { done = i + 1 })) it.sent =
    subst (λ (v : ReplayView). IsDone (so_far c.loop-replay.replay) it.step (so_far v) it.sent) h.ok h.done in
    let sent : from ≡ senders w.setting (take (i + 1) w.steps) =
    traced_more w i (i + 1) it.step it.sent c.loop-replay.senders.items from
    (subst (λ (r : Rehearsal). run r.setting (take i r.steps) ≡ Some (state_of (first_steps r.setting r.cells r.steps i))) whole h.runs)
    (subst (λ (r : Rehearsal). IsDone (first_steps r.setting r.cells r.steps i) it.step
    (first_steps r.setting r.cells r.steps (i + 1)) it.sent) whole next) told.senders (rw (← c.member.ensures) c.in_ok-note.ensures) in
    let done : IsStep w i it view seen = record { there = there; number = h.number; before = before; joined = joined; seen = glanced } in
    let known = c.deref.ensures.value ∙ sent in
    rw h.ok (record {
      whole = whole;
      senders = sent;
      trail = trail_more window w view i it seen old.trail.items new.trail.items done told.trail more.trail;
      shades = layer_more shades_layer window w view i it seen c.deref.result.now old.trail.items later (string_bytes old.shades)
          (string_bytes new.shades) done known told.trail rest told.shades more.shades;
      arrows = layer_more arrows_layer window w view i it seen c.deref.result.now old.trail.items later (string_bytes old.arrows)
          (string_bytes new.arrows) done known told.trail rest told.arrows more.arrows;
      marks = layer_more marks_layer window w view i it seen c.deref.result.now old.trail.items later (string_bytes old.marks)
          (string_bytes new.marks) done known told.trail rest told.marks more.marks;
    })

pub draw_next-requires-clause-few : goal.draw_next-requires-clause-few
draw_next-requires-clause-few c =
    let i = c.loop-replay.replay.done in
    let within : i < length c.args.steps.now =
    subst (λ (w : Rehearsal). i < length w.steps) c.loop-replay.invariant.whole (c.loop-replay-test.ensures.left refl) in
    trail_below c.args.window.now (setting_of c.args.setup) c.args.setup.cells c.args.steps.now i c.loop-replay.canvas.trail.items
    c.loop-replay.invariant.trail within c.requires.narrow

pub returns-clause-few : goal.returns-clause-few
returns-clause-few c =
    let i = c.loop-replay.replay.done in
    let all : i ≡ length c.args.steps.now =
    c.loop-replay-test.ensures.over refl ∙ ap (λ (w : Rehearsal). length w.steps) c.loop-replay.invariant.whole in
    trail_within c.args.window.now (setting_of c.args.setup) c.args.setup.cells c.args.steps.now i c.loop-replay.canvas.trail.items
    c.loop-replay.invariant.trail all c.requires.narrow
