-- What holds of every run.
use Rattle.ct_merge.proofs.Common.{◌≡◌, ℕ, ◌-◌, List, [], ◌∷◌, ◌++◌, Some, length, sym, ap, ◌∙◌, subst, append-nil, append_assoc, replicate}
use Rattle.ct_merge.proofs.Common.{option_and_then, option_map_or, actor, KnowsMessages, next, Rehearsal, state_of, empty, extended}
use Rattle.ct_merge.proofs.Common.{Setting, State, first_state, Step, some-same, made-then, Holds, state-first, knows-first, knows-next}
use Rattle.ct_merge.proofs.Common.{IsRun}
use Rattle.ct_model.specs.Run.{run, run_from}
use Rattle.ct_model.specs.Senders.{senders, senders_from}
use Rattle.ct_model.proofs.Consensus.Runs.{Holds-run}
use Rattle.ct_model.proofs.Record.Runs.{state_of-push, run-push, stepped-next, kept-sized}

-- the state after an enabled step
pub state_next : (w : Rehearsal) (step : Step) (h : State) → next w.setting (state_of w) step ≡ Some h → state_of (extended w step) ≡ h
state_next w step h e = state_of-push w step ∙ stepped-next w.setting (state_of w) h step e

pub run_next : (w : Rehearsal) (step : Step) (h : State) → IsRun w → next w.setting (state_of w) step ≡ Some h → IsRun (extended w step)
run_next w step h r e =
    run-push w.setting w.steps step
    ∙ (ap (λ o. option_and_then (λ g. next w.setting g step) o) r ∙ (e ∙ ap (λ g. Some g) (sym (state_next w step h e))))

pub run_first : (s : Setting) (cells : ℕ) → IsRun (empty s cells)
unfolding run run_from
run_first s cells = ap (λ g. Some g) (sym (state-first s cells))

-- what holds of the record without steps, and of each with an enabled step more, holds of every run
module _ (P : Rehearsal → Type 0) (first : (s : Setting) (cells : ℕ) → P (empty s cells))
    (more : (w : Rehearsal) (step : Step) (h : State) → IsRun w → next w.setting (state_of w) step ≡ Some h → P w →
    P (extended w step)) where
  go : (w : Rehearsal) (steps : List Step) (g : State) → IsRun w → P w → run_from w.setting (state_of w) steps ≡ Some g →
      P (record w { steps = w.steps ++ steps })
  unfolding run_from
  go w [] g r h e = subst (λ (l : List Step). P (record w { steps = l })) (sym (append-nil w.steps)) h
  go w (step ∷ steps) g r h e =
      let made = made-then (λ mid. run_from w.setting mid steps) (next w.setting (state_of w) step) g e in
      subst (λ (l : List Step). P (record w { steps = l })) (append_assoc w.steps (step ∷ []) steps)
      (go (extended w step) steps g (run_next w step made.from r made.is) (more w step made.from r made.is h)
      (subst (λ x. run_from w.setting x steps ≡ Some g) (sym (state_next w step made.from made.is)) made.gives))

  pub by_steps : (w : Rehearsal) → IsRun w → P w
  unfolding run
  by_steps w r =
      go (empty w.setting w.cells) w.steps (state_of w) (run_first w.setting w.cells) (first w.setting w.cells)
      (subst (λ x. run_from w.setting x w.steps ≡ Some (state_of w)) (sym (state-first w.setting w.cells)) r)

-- what is known of it
pub record IsKnown (w : Rehearsal) : Type 0 where
  pub size : length (state_of w).members ≡ w.setting.members
  pub holds : Holds w.setting (state_of w)
  pub knows : KnowsMessages w.setting (state_of w)

pub known : (w : Rehearsal) → IsRun w → IsKnown w
known w r =
    let k = kept-sized (KnowsMessages w.setting) w.setting (knows-first w.setting) (knows-next w.setting) w.steps (state_of w) r in
    record { size = k.0; holds = Holds-run w.setting w.steps (state_of w) r; knows = k.1 }

-- who sent what a step sends

senders_from-push : (s : Setting) (g h mid : State) (steps : List Step) (step : Step) → run_from s g steps ≡ Some h →
    next s h step ≡ Some mid →
    senders_from s g (steps ++ step ∷ []) ≡ senders_from s g steps ++ replicate (length mid.sent - length h.sent) (actor step)
unfolding senders_from run_from
senders_from-push s g h mid [] step e n =
    let same : g ≡ h = some-same g h e in
    let at : next s g step ≡ Some mid = subst (λ x. next s x step ≡ Some mid) (sym same) n in
    ap (λ o. option_map_or (λ (x : State). replicate (length x.sent - length g.sent) (actor step) ++ []) o []) at
    ∙ (append-nil _ ∙ ap (λ (x : State). replicate (length mid.sent - length x.sent) (actor step)) same)
senders_from-push s g h mid (x ∷ steps) step e n =
    let made = made-then (λ y. run_from s y steps) (next s g x) h e in
    let ih = senders_from-push s made.from h mid steps step made.gives n in
    ap (λ o. option_map_or (λ (y : State). replicate (length y.sent - length g.sent) (actor x) ++ senders_from s y (steps ++ step ∷ []))
    o [])
    made.is
    ∙ (ap (λ l. replicate (length (made.from).sent - length g.sent) (actor x) ++ l) ih
    ∙ (sym (append_assoc (replicate (length (made.from).sent - length g.sent) (actor x)) (senders_from s made.from steps)
    (replicate (length mid.sent - length h.sent) (actor step)))
    ∙ ap (λ l. l ++ replicate (length mid.sent - length h.sent) (actor step))
    (sym (ap (λ o. option_map_or (λ (y : State). replicate (length y.sent - length g.sent) (actor x) ++ senders_from s y steps) o [])
    made.is))))

pub senders_next : (w : Rehearsal) (step : Step) (h : State) → IsRun w → next w.setting (state_of w) step ≡ Some h →
    senders w.setting (w.steps ++ step ∷ [])
    ≡ senders w.setting w.steps ++ replicate (length h.sent - length (state_of w).sent) (actor step)
unfolding senders run
senders_next w step h r e = senders_from-push w.setting (first_state w.setting) (state_of w) h w.steps step r e
