-- Whose step sent each envelope, after one step more.
use Rattle.std.proofs.Common.{◌≡◌, ℕ, ◌+◌, ◌-◌, List, [], ◌∷◌, ◌++◌, Some, sym, ap, ◌∙◌, arith, append_assoc, append-nil, length, replicate}
use Rattle.std.proofs.Common.{take}
use Rattle.ct_model.specs.declared.step.Step.{Step}
use Rattle.ct_model.specs.Actor.{actor}
use Rattle.ct_model.specs.Next.{next}
use Rattle.ct_model.specs.Rehearsal.{Rehearsal, state_of}
use Rattle.ct_model.specs.Run.{run, run_from}
use Rattle.ct_model.specs.Senders.{senders, senders_from}
use Rattle.ct_model.specs.Setting.{Setting}
use Rattle.ct_model.specs.State.{State, first_state}
use Rattle.ct_model.proofs.Basics.Options.{some-same, made-then}
use Rattle.ct_world.specs.Replay.{first_steps}
use Rattle.ct_world.specs.World.{IsDone}

-- the sender of what a step sends, for each of them
abbrev sent_by : Step → State → State → List ℕ
sent_by step old new = replicate (length new.sent - length old.sent) (actor step)

senders_from-last : (s : Setting) (g : State) (done : List Step) (step : Step) (old new : State) → run_from s g done ≡ Some old →
    next s old step ≡ Some new → senders_from s g (done ++ step ∷ []) ≡ senders_from s g done ++ sent_by step old new
unfolding run_from senders_from
senders_from-last s g [] step old new e n =
    let same : g ≡ old = some-same g old e in
    rw (same, n) (append-nil (sent_by step old new))
senders_from-last s g (first ∷ done) step old new e n =
    let made = made-then (λ mid. run_from s mid done) (next s g first) old e in
    rw made.is (ap (λ from. sent_by first g made.from ++ from) (senders_from-last s made.from done step old new made.gives n)
    ∙ sym (append_assoc (sent_by first g made.from) (senders_from s made.from done) (sent_by step old new)))

-- what a step sends joins it
pub senders_more : (s : Setting) (done : List Step) (step : Step) (old new : State) (sent : ℕ) → run s done ≡ Some old →
    next s old step ≡ Some new → length new.sent ≡ length old.sent + sent →
    senders s (done ++ step ∷ []) ≡ senders s done ++ replicate sent (actor step)
unfolding run senders
senders_more s done step old new sent e n more =
    let count : length new.sent - length old.sent ≡ sent = omega arith in
    senders_from-last s (first_state s) done step old new e n
    ∙ ap (λ k. senders_from s (first_state s) done ++ replicate k (actor step)) count

-- what the next step of a replay sends joins it
pub traced_more : (w : Rehearsal) (i j : ℕ) (step : Step) (sent : ℕ) (old new : List ℕ) →
    run w.setting (take i w.steps) ≡ Some (state_of (first_steps w.setting w.cells w.steps i)) →
    IsDone (first_steps w.setting w.cells w.steps i) step (first_steps w.setting w.cells w.steps j) sent →
    old ≡ senders w.setting (take i w.steps) → new ≡ old ++ replicate sent (actor step) → new ≡ senders w.setting (take j w.steps)
traced_more w i j step sent old new runs done so_far more =
    more ∙ ap (λ l. l ++ replicate sent (actor step)) so_far
    ∙ sym (senders_more w.setting (take i w.steps) step _ _ sent runs done.next done.sent_more)
    ∙ ap (senders w.setting) (sym (ap (λ (v : Rehearsal). v.steps) done.joined))
