use Rattle.std.proofs.Common.{length, subst}
use Rattle.ct_model.specs.Lawful.{AllowsFirst}
use Rattle.ct_model.specs.Rehearsal.{Rehearsal}
use Rattle.ct_world.proofs.world.World.replay.Goals as goal

pub returns-clause-allowed : goal.returns-clause-allowed
returns-clause-allowed c =
    let whole = c.loop-replay.replay.whole in
    subst (λ (w : Rehearsal). AllowsFirst w.setting w.cells w.steps (length w.steps)) c.loop-replay.invariant
    (subst (AllowsFirst whole.setting whole.cells whole.steps) (c.is_over.ensures.over c.loop-replay-test.false) c.is_over.ensures.allowed)
