-- The messages submitted: of each member as many as it submitted in the record, each once.
use Rattle.std.proofs.Common.{◌≡◌, ℕ, ◌+◌, List, [], ◌∷◌, ◌++◌, filter, length, Some, arith, append-nil}
use Rattle.std.proofs.lemmas.Bool.Decides.{nat_tests}
use Rattle.ct_names.specs.Membership.{IsWithoutRepeats}
use Rattle.ct_names.proofs.Lists.{IsWithoutRepeats-append}
use Rattle.ct_names.proofs.Values.{has-in}
use Rattle.ct_model.specs.declared.step.Step.{Step}
use Rattle.ct_model.specs.Actor.{actor}
use Rattle.ct_model.specs.Knowledge.{KnowsMessages}
use Rattle.ct_model.specs.Next.{Outcome, row, next, next_message}
use Rattle.ct_model.specs.Run.{run, run_from}
use Rattle.ct_model.specs.Setting.{Setting}
use Rattle.ct_model.specs.State.{State, member, first_state, submissions}
use Rattle.ct_model.proofs.Basics.Options.{some-same, made-then}
use Rattle.ct_model.proofs.Record.Frame.{after-submitted, submissions-append, submissions-next, submissions-none}
use Rattle.ct_model.proofs.Record.Runs.{kept-sized}
use Rattle.ct_model.proofs.Record.Start.{knows-first}
use Rattle.ct_model.proofs.Relay.Messages.{knows-next, next-is}
use Rattle.ct_model.proofs.Steps.Shapes.{by_shape}
use Rattle.ct_progress.specs.Progress.{submits}

-- how many a step submits
counted-step : (s : Setting) (g : State) (step : Step) (o : Outcome) (p : ℕ) →
    row s g (actor step) (member g (actor step)) step ≡ Some o → submissions o.submitted p ≡ length (filter (submits p) (step ∷ []))
counted-step s g step o p e = grind (arith, nat_tests, submissions-next, submissions-none)

counted-next : (s : Setting) (g : State) (step : Step) (h : State) (p : ℕ) → next s g step ≡ Some h →
    submissions h.submitted p ≡ submissions g.submitted p + length (filter (submits p) (step ∷ []))
counted-next s g step h p e =
    let t = next-is s g step h e in
    grind (arith, t.gives, after-submitted, submissions-append, counted-step s g step t.outcome p t.row)

counted-from : (s : Setting) (g h : State) (steps : List Step) (p : ℕ) → run_from s g steps ≡ Some h →
    submissions h.submitted p ≡ submissions g.submitted p + length (filter (submits p) steps)
unfolding run_from
counted-from s g h [] p e = grind (arith, some-same)
counted-from s g h (step ∷ steps) p e =
    let mid = made-then (λ mid. run_from s mid steps) (next s g step) h e in
    grind (arith, counted-next s g step mid.from p mid.is, counted-from s mid.from h steps p mid.gives)

pub counted-run : (s : Setting) (steps : List Step) (g : State) (p : ℕ) → run s steps ≡ Some g →
    submissions g.submitted p ≡ length (filter (submits p) steps)
unfolding run first_state
counted-run s steps g p e = grind (arith, counted-from s (first_state s) g steps p e, submissions-none)

-- each once

abbrev Submits : Setting → State → Type 0
Submits s g = KnowsMessages s g × IsWithoutRepeats g.submitted

once-step : (s : Setting) (g : State) (step : Step) (o : Outcome) → Submits s g →
    row s g (actor step) (member g (actor step)) step ≡ Some o → IsWithoutRepeats (g.submitted ++ o.submitted)
once-step s g step o k =
    let same : IsWithoutRepeats (g.submitted ++ []) = rw (append-nil g.submitted) k.1 in
    by_shape s g (actor step) (member g (actor step)) (λ x. IsWithoutRepeats (g.submitted ++ x.submitted)) step o (record {
      submits = λ c good. IsWithoutRepeats-append g.submitted (next_message g.submitted (actor step) c ∷ []) k.1 ((λ h. h), tt)
          (λ x i j. grind (arith, has-in g.submitted x i, k.0.numbered x));
      gets = λ i w at. same;
      opens = λ idle some. same;
      turns = λ a c t open_at taken. same;
      closes = λ c v open_at has delivers. same;
      follows = λ v idle has delivers. same;
      marks = λ crashed. same;
    })

pub once-run : (s : Setting) (steps : List Step) (g : State) → run s steps ≡ Some g → IsWithoutRepeats g.submitted
once-run s steps g e = (kept-sized (Submits s) s (knows-first s, unfold first_state in tt) (λ g step h e size k.
    let t = next-is s g step h e in
    (knows-next s g step h e size k.0, rw (← t.gives, after-submitted s g (actor step) t.outcome) (once-step s g step t.outcome k t.row)))
    steps g e).1.1
