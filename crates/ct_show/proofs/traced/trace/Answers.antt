use Rattle.std.proofs.Common.{◌≡◌, ◌+◌, Some, refl, ap, ◌∙◌, subst, length, take}
use Rattle.ct_model.specs.Rehearsal.{Rehearsal, state_of}
use Rattle.ct_model.specs.Run.{run}
use Rattle.ct_model.specs.Senders.{senders, senders_from}
use Rattle.ct_world.specs.Replay.{AllowsFirst, first_steps}
use Rattle.ct_world.specs.Setup.{setting_of}
use Rattle.ct_world.specs.Stage.{ReplayView, so_far}
use Rattle.ct_world.specs.World.{IsDone}
use Rattle.ct_text.proofs.Tracing.{traced_more}
use Rattle.ct_show.proofs.traced.trace.Goals as goal

pub loop-replay-init : goal.loop-replay-init
unfolding senders senders_from
loop-replay-init c = rw c.in_ok-replay.ensures.ok (record { whole = refl; senders = c.new-senders.ensures.items })

pub loop-replay-preserved : goal.loop-replay-preserved
loop-replay-preserved c =
    let h = c.in_ok-done.ensures in
    let i = c.loop-replay.replay.done in
    let step = c.in_ok-done.done.step in
    let sent = c.in_ok-done.done.sent in
    let whole = c.loop-replay.invariant.whole in
    let next : IsDone (so_far c.loop-replay.replay) step (so_far (record c.loop-replay.replay { done = i + 1 })) sent =
    subst (λ (v : ReplayView). IsDone (so_far c.loop-replay.replay) step (so_far v) sent) h.ok h.done in
    rw h.ok (record {
      whole = whole;
      senders = traced_more _ i (i + 1) step sent c.loop-replay.senders.items c.note.new.senders.items
          (subst (λ (w : Rehearsal). run w.setting (take i w.steps) ≡ Some (state_of (first_steps w.setting w.cells w.steps i)))
          whole h.runs)
          (subst
          (λ (w : Rehearsal). IsDone (first_steps w.setting w.cells w.steps i) step (first_steps w.setting w.cells w.steps (i + 1)) sent)
          whole next)
          c.loop-replay.invariant.senders (rw (← c.member.ensures) c.in-Ok.ensures);
    })

pub returns-clause-allowed : goal.returns-clause-allowed
returns-clause-allowed c =
    let whole = c.loop-replay.invariant.whole in
    let all : c.loop-replay.replay.done ≡ length c.args.steps.now =
    c.loop-replay-test.ensures.over refl ∙ ap (λ (w : Rehearsal). length w.steps) whole in
    subst (AllowsFirst (setting_of c.args.setup) c.args.setup.cells c.args.steps.now) all
    (subst (λ (w : Rehearsal). AllowsFirst w.setting w.cells w.steps c.loop-replay.replay.done) whole c.loop-replay-test.ensures.allowed)
