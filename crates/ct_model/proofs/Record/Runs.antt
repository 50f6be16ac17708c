-- A run and one more step.
use Rattle.std.proofs.Common.{◌≡◌, List, [], ◌∷◌, ◌++◌, Some, None, refl, ap, subst, length}
use Rattle.std.specs.Prelude.{option_and_then, unwrap_or}
use Rattle.std.proofs.lemmas.List.Sums.{fold-append}
use Rattle.ct_model.specs.declared.step.Step.{Step}
use Rattle.ct_model.specs.Setting.{Setting}
use Rattle.ct_model.specs.State.{State, first_state}
use Rattle.ct_model.specs.Next.{next, stepped}
use Rattle.ct_model.specs.Run.{run, run_from}
use Rattle.ct_model.specs.Rehearsal.{Rehearsal, state_of, extended}
use Rattle.ct_model.proofs.Basics.Options.{some-same, made-then}
use Rattle.ct_model.proofs.Record.Start.{size-first}
use Rattle.ct_model.proofs.Relay.Messages.{size-next}

pub state_of-push : (w : Rehearsal) (step : Step) → state_of (extended w step) ≡ stepped w.setting (state_of w) step
unfolding state_of
state_of-push w step = fold-append (stepped w.setting) (first_state w.setting) w.steps (step ∷ [])

run_from-push : (s : Setting) (g : State) (steps : List Step) (step : Step) →
    run_from s g (steps ++ step ∷ []) ≡ option_and_then (λ h. next s h step) (run_from s g steps)
unfolding run_from
run_from-push s g [] step = elim (next s g step) as (λ o. option_and_then (λ h. Some h) o ≡ o) [ None ↦ refl | Some h ↦ refl ]
run_from-push s g (x ∷ steps) step =
    elim (next s g x) as (λ o. option_and_then (λ h. run_from s h (steps ++ step ∷ [])) o
    ≡ option_and_then (λ k. next s k step) (option_and_then (λ h. run_from s h steps) o)) [
      | None ↦ refl
      | Some h ↦ run_from-push s h steps step
    ]

-- a run goes on by one step
pub run-push : (s : Setting) (steps : List Step) (step : Step) →
    run s (steps ++ step ∷ []) ≡ option_and_then (λ h. next s h step) (run s steps)
unfolding run
run-push s steps step = run_from-push s (first_state s) steps step

-- where the next state is defined, that is the state after the step
pub stepped-next : (s : Setting) (g h : State) (step : Step) → next s g step ≡ Some h → stepped s g step ≡ h
unfolding stepped
stepped-next s g h step e = ap (λ o. unwrap_or o g) e

kept-run_from : (P : State → Type 0) (s : Setting) → ((g : State) (step : Step) (h : State) → next s g step ≡ Some h → P g → P h) →
    (g h : State) (steps : List Step) → run_from s g steps ≡ Some h → P g → P h
unfolding run_from
kept-run_from P s keeps g h [] e first = subst P (some-same g h e) first
kept-run_from P s keeps g h (step ∷ steps) e first =
    let mid = made-then (λ mid. run_from s mid steps) (next s g step) h e in
    kept-run_from P s keeps mid.from h steps mid.gives (keeps g step mid.from mid.is first)

-- what holds of the first state and is kept by every step holds after a run
pub kept-run : (P : State → Type 0) (s : Setting) → P (first_state s) →
    ((g : State) (step : Step) (h : State) → next s g step ≡ Some h → P g → P h) → (steps : List Step) (g : State) → run s steps ≡ Some g →
    P g
unfolding run
kept-run P s first keeps steps g e = kept-run_from P s keeps (first_state s) g steps e first

-- so does what a step keeps where there are as many members as were set, which there are
pub kept-sized : (P : State → Type 0) (s : Setting) → P (first_state s) →
    ((g : State) (step : Step) (h : State) → next s g step ≡ Some h → length g.members ≡ s.members → P g → P h) → (steps : List Step)
    (g : State) → run s steps ≡ Some g → (length g.members ≡ s.members) × P g
kept-sized P s first keeps = kept-run (λ g. (length g.members ≡ s.members) × P g) s (size-first s, first)
    (λ g step h e k. (size-next s g step h e k.0, keeps g step h e k.0 k.1))
