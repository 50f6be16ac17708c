-- The messages that are proposed were submitted; no value that is proposed or decided has more messages than the bound, and no batch has.
use Rattle.std.proofs.Common.{◌≡◌, ℕ, List, Some, subst, inl, inr, ◌⊎◌, take, drop, zero, suc, ◌≤◌, [], ◌∷◌, length, arith}
use Rattle.std.proofs.lemmas.List.{take-append-drop, length-take}
use Rattle.ct_names.specs.Membership.{IsIn}
use Rattle.ct_names.specs.Message.{Message}
use Rattle.ct_names.specs.Value.{minus, ordered, Value}
use Rattle.ct_names.proofs.Lists
use Rattle.ct_names.proofs.Values
use Rattle.ct_model.specs.declared.step.Step.{Step}
use Rattle.ct_model.specs.Actor.{actor}
use Rattle.ct_model.specs.Knowledge.{KnowsMessages}
use Rattle.ct_model.specs.Setting.{Setting}
use Rattle.ct_model.specs.State.{State, Member, Proposal, member, delivered, first_state, joined}
use Rattle.ct_model.specs.Received.{HasDecided, received, received_by}
use Rattle.ct_model.specs.Next.{Outcome, row, undelivered, proposed, after, next}
use Rattle.ct_model.specs.Run.{run}
use Rattle.ct_model.proofs.Record.Start.{knows-first}
use Rattle.ct_model.proofs.Record.Frame.{after-submitted}
use Rattle.ct_model.proofs.Relay.Messages.{next-is, knows-next}
use Rattle.ct_model.proofs.Record.Runs.{kept-sized, kept-run}
use Rattle.std.proofs.Math.Nat.{min-le_left}
use Rattle.ct_names.specs.Batch.{Batch}
use Rattle.ct_names.specs.Group.{IsMember}
use Rattle.ct_names.proofs.Values.{length-ordered}
use Rattle.ct_model.specs.Safe.{IsAgreed}
use Rattle.ct_model.proofs.Delivery.Batches.{deliveries, decision, decision-is, closed-run}

-- each message of a proposal was submitted
abbrev pub ProposesSubmitted : State → Type 0
ProposesSubmitted g = (x : Proposal) → IsIn x g.proposals → (m : Message) → IsIn m x.value → IsIn m g.submitted

-- what a member proposes is among what it received and didn't deliver, and so it was submitted

pub proposed-from : (s : Setting) (m : Member) (x : Message) → IsIn x (proposed s m) → IsIn x (minus (received m.got) (delivered m))
unfolding proposed undelivered
proposed-from s m x h =
    let rest : List Message = minus (received m.got) (delivered m) in
    Values.ordered-from rest x (rw take-append-drop at
    (Lists.IsIn-append_left x (take s.bound (ordered rest)) (drop s.bound (ordered rest)) h))

proposed-submitted : (s : Setting) (g : State) (p : ℕ) (m : Message) → KnowsMessages s g → IsIn m (proposed s (member g p)) →
    IsIn m g.submitted
unfolding received_by
proposed-submitted s g p m k h = Values.in-has g.submitted m (k.received p m (Values.has-in _ m
    (Values.minus-from (received (member g p).got) (delivered (member g p)) m (proposed-from s (member g p) m h))))

-- what a step proposes is what its member may propose
abbrev pub IsProposing : Setting → Member → Outcome → Type 0
IsProposing s m o = (x : Proposal) → IsIn x o.proposals → x.value ≡ proposed s m

pub proposes-row : (s : Setting) (g : State) (p : ℕ) (m : Member) (step : Step) (o : Outcome) → row s g p m step ≡ Some o
    → IsProposing s m o
proposes-row s g p m step o = grind arith

pub proposals-cases : (s : Setting) (g : State) (p : ℕ) (o : Outcome) (x : Proposal) → IsIn x (after s g p o).proposals →
    IsIn x g.proposals ⊎ IsIn x o.proposals
unfolding after
proposals-cases s g p o x h = Lists.IsIn-append_cases x g.proposals o.proposals h

proposes-next : (s : Setting) (g : State) (step : Step) (h : State) → next s g step ≡ Some h → KnowsMessages s g → ProposesSubmitted g →
    ProposesSubmitted h
proposes-next s g step h e k old =
    let t = next-is s g step h e in
    let p : ℕ = actor step in
    rw (← t.gives) (λ x is m inside. rw after-submitted (Lists.IsIn-append_left m g.submitted t.outcome.submitted
    (elim (proposals-cases s g p t.outcome x is) [
      | inl a ↦ old x a m inside
      | inr b ↦ proposed-submitted s g p m k (rw (proposes-row s g p (member g p) step t.outcome t.row x b) at inside)
    ])))

pub proposes-run : (s : Setting) (steps : List Step) (g : State) → run s steps ≡ Some g → ProposesSubmitted g
unfolding first_state
proposes-run s steps g e = (kept-sized (λ g. KnowsMessages s g × ProposesSubmitted g) s (knows-first s, λ x never. absurd never)
    (λ g step h e size k. (knows-next s g step h e size k.0, proposes-next s g step h e k.0 k.1)) steps g e).1.1

-- what is left of a set is no longer than the set

length-minus : (v other : List Message) → length (ordered (minus v other)) ≤ length v
length-minus v other = grind (arith, Lists.filter-shorter, length-ordered)

-- proposals

length-proposed : (s : Setting) (m : Member) → length (proposed s m) ≤ s.bound
unfolding proposed
length-proposed s m = rw (length-take s.bound (undelivered m)) (min-le_left s.bound (length (undelivered m)))

abbrev ProposesFew : Setting → State → Type 0
ProposesFew s g = (x : Proposal) → IsIn x g.proposals → length x.value ≤ s.bound

few-next : (s : Setting) (g : State) (step : Step) (h : State) → next s g step ≡ Some h → ProposesFew s g → ProposesFew s h
few-next s g step h e old =
    let t = next-is s g step h e in
    let p : ℕ = actor step in
    subst (λ x. ProposesFew s x) t.gives (λ x is. elim (proposals-cases s g p t.outcome x is) [
      | inl a ↦ old x a
      | inr b ↦ rw (proposes-row s g p (member g p) step t.outcome t.row x b) (length-proposed s (member g p))
    ])

-- the batches that short decisions give
deliveries-few : (f : ℕ → Value) (bound c : ℕ) → ((k : ℕ) → 1 ≤ k → k ≤ c → length (f k) ≤ bound) → (b : Batch)
    → IsIn b (deliveries f c) → length b.messages ≤ bound
unfolding deliveries
deliveries-few f bound zero few b h = absurd h
deliveries-few f bound (suc c) few b h =
    let new : Batch = record { instance = suc c; messages = ordered (minus (f (suc c)) (joined (deliveries f c))) } in
    grind (
      arith,
      Lists.IsIn-append_cases b (deliveries f c) (new ∷ []) h,
      deliveries-few f bound c (λ k lo hi. few k lo (omega arith)) b,
      length-minus (f (suc c)) (joined (deliveries f c)),
      few (suc c) (omega arith) (omega arith),
    )

-- what holds after every run

module _ (s : Setting) (steps : List Step) (g : State) (runs : run s steps ≡ Some g) (agree : IsAgreed s g) where
  pub decided-few : (p instance : ℕ) (v : Value) → IsMember s.members p → HasDecided g p instance v → length v ≤ s.bound
  decided-few p instance v is has =
      let was = agree.proposed p instance v is has in
      kept-run (ProposesFew s) s (λ x never. absurd (unfold first_state in never)) (few-next s) steps g runs
      (record { member = was.by; instance = instance; value = v }) was.is_in

  pub batches-few : (p : ℕ) (b : Batch) → IsMember s.members p → IsIn b (member g p).batches → length b.messages ≤ s.bound
  batches-few p b is h =
      let a = (closed-run s steps g runs).1 p in
      deliveries-few (decision (member g p).got) s.bound a.closed
      (λ k lo hi.
      let d = a.decided k lo hi in
      rw (decision-is (member g p).got k d.value d.is) (decided-few p k d.value is d.is)) b (rw a.batches at h)
