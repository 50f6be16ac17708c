-- A step proposes one value at most, so there are no more values than steps.
use Rattle.std.proofs.Common.{◌≡◌, ℕ, ◌+◌, ◌≤◌, List, [], ◌∷◌, length, refl, ap, subst, arith, Some}
use Rattle.std.proofs.lemmas.List.{length-append, length-map}
use Rattle.ct_names.specs.declared.limit.TheConstants.{MAX_STEPS}
use Rattle.ct_model.specs.declared.step.Step.{Step}
use Rattle.ct_model.specs.Actor.{actor}
use Rattle.ct_model.specs.Setting.{Setting}
use Rattle.ct_model.specs.State.{State, Member, Proposal, member, first_state}
use Rattle.ct_model.specs.Next.{Outcome, row, after, next}
use Rattle.ct_model.specs.Run.{run, run_from}
use Rattle.ct_model.specs.Rehearsal.{Rehearsal, state_of}
use Rattle.ct_model.specs.Lawful.{IsLawful}
use Rattle.ct_model.proofs.Relay.Messages.{next-is}
use Rattle.ct_model.proofs.Basics.Options.{made-then, some-same}
use Rattle.ct_model.proofs.Steps.Shapes.{by_shape}
use Rattle.ct_world.specs.Kept.{values_of}

abbrev AtMostOne : Outcome → Type 0
AtMostOne o = length o.proposals ≤ 1

row-proposes : (s : Setting) (g : State) (p : ℕ) (m : Member) (step : Step) (o : Outcome) → row s g p m step ≡ Some o → AtMostOne o
row-proposes s g p m step o = by_shape s g p m AtMostOne step o (record {
  submits = λ c good. omega arith;
  gets = λ k w at. omega arith;
  opens = λ idle some. omega arith;
  turns = λ a c t open_at taken. omega arith;
  closes = λ c v open_at has delivers. omega arith;
  follows = λ v idle has delivers. omega arith;
  marks = λ crashed. omega arith;
})

after-number : (s : Setting) (g : State) (p : ℕ) (o : Outcome) → length (after s g p o).proposals ≡ length g.proposals + length o.proposals
unfolding after
after-number s g p o = length-append g.proposals o.proposals

next-number : (s : Setting) (g : State) (step : Step) (h : State) → next s g step ≡ Some h → length h.proposals ≤ length g.proposals + 1
next-number s g step h e =
    let made = next-is s g step h e in
    let one = row-proposes s g (actor step) (member g (actor step)) step made.outcome made.row in
    let same = ap (λ (x : State). length x.proposals) made.gives in
    omega (arith, after-number s g (actor step) made.outcome)

run-number : (s : Setting) (g : State) (steps : List Step) (h : State) → run_from s g steps ≡ Some h →
    length h.proposals ≤ length g.proposals + length steps
unfolding run_from
run-number s g [] h e = let same : g ≡ h = some-same g h e in subst (λ x. length x.proposals ≤ length g.proposals + 0) same (omega arith)
run-number s g (step ∷ steps) h e =
    let mid = made-then (λ k. run_from s k steps) (next s g step) h e in
    let one = next-number s g step mid.from mid.is in
    let rest = run-number s mid.from steps h mid.gives in
    omega arith

first-number : (s : Setting) → length (first_state s).proposals ≡ 0
unfolding first_state
first-number s = refl

-- there are no more proposals than steps
pub few-proposals : (s : Setting) (steps : List Step) (h : State) → run s steps ≡ Some h → length h.proposals ≤ length steps
unfolding run
few-proposals s steps h e = grind (arith, run-number s (first_state s) steps h e, first-number s)

pub few-values : (w : Rehearsal) → IsLawful w → length (values_of (state_of w)) ≤ MAX_STEPS
few-values w law = omega (
  arith,
  length-map (state_of w).proposals (λ (x : Proposal). x.value),
  few-proposals w.setting w.steps (state_of w) law.runs,
  law.within.few_steps,
)
