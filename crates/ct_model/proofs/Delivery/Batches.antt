-- A member's batches are what its decisions give: one for each instance that it closed, in order.
use Rattle.std.proofs.Common.{◌≡◌, ℕ, suc, zero, ◌+◌, ◌-◌, ◌≤◌, List, [], ◌∷◌, ◌++◌, Some, None, refl, sym, ap, ◌∙◌}
use Rattle.std.proofs.Common.{inl, inr, arith, unwrap_or, length}
use Rattle.std.proofs.lemmas.Bool.{cases_eq}
use Rattle.std.proofs.lemmas.List.Elements.{filter_map-append}
use Rattle.ct_names.specs.Value.{Value, ordered, minus}
use Rattle.ct_model.specs.declared.step.Step.{Step}
use Rattle.ct_model.specs.Actor.{actor}
use Rattle.ct_model.specs.AtValue.{Wire, Standing}
use Rattle.ct_model.specs.Setting.{Setting}
use Rattle.ct_model.specs.State.{State, Member, joined, member, new_member}
use Rattle.ct_names.specs.Batch.{Batch}
use Rattle.ct_model.specs.Received.{decided}
use Rattle.ct_model.specs.Next.{Outcome, row, close, batch_of, after, next}
use Rattle.ct_model.specs.Run.{run}
use Rattle.ct_model.proofs.Record.Start.{member-first}
use Rattle.ct_model.proofs.Record.Frame.{member-same, member-other, at_place}
use Rattle.ct_model.proofs.Relay.Messages.{next-is, in_members}
use Rattle.ct_model.proofs.Basics.Options.{some-none, none-is}
use Rattle.ct_model.proofs.Steps.Shapes.{by_shape}
use Rattle.ct_model.proofs.Record.Runs.{kept-sized}

-- the batches that decisions give, up to an instance
unfoldable pub deliveries : (ℕ → Value) → ℕ → List Batch
deliveries decision zero = []
deliveries decision (suc k) =
    deliveries decision k ++ record { instance = suc k; messages = ordered (minus (decision (suc k)) (joined (deliveries decision k))) }
    ∷ []

-- the same decisions give the same batches
pub deliveries-same : (f g : ℕ → Value) (c : ℕ) → ((k : ℕ) → 1 ≤ k → k ≤ c → f k ≡ g k) → deliveries f c ≡ deliveries g c
unfolding deliveries
deliveries-same f g zero h = refl
deliveries-same f g (suc c) h = grind (arith, deliveries-same f g c (λ k lo hi. h k lo (omega arith)))

-- the decision for an instance, and the empty set where there is none
pub decision : List Wire → ℕ → Value
decision got k = unwrap_or (decided got k) []

pub decision-is : (got : List Wire) (k : ℕ) (v : Value) → decided got k ≡ Some v → decision got k ≡ v
unfolding decision
decision-is got k v e = ap (λ o. unwrap_or o []) e

-- there is one
pub record HasDecision (got : List Wire) (k : ℕ) : Type 0 where
  pub value : Value
  pub is : decided got k ≡ Some value

-- the member closed this many instances, each by its decision
pub record HasClosed (m : Member) : Type 0 where
  pub closed : ℕ
  pub idle : m.current ≡ None → closed ≡ m.last
  pub busy : (c : Standing) → m.current ≡ Some c → suc closed ≡ m.last
  pub batches : m.batches ≡ deliveries (decision m.got) closed
  pub decided : (k : ℕ) → 1 ≤ k → k ≤ closed → HasDecision m.got k

-- a decision stays as more is got
pub decided-more : (got more : List Wire) (k : ℕ) (v : Value) → decided got k ≡ Some v → decided (got ++ more) k ≡ Some v
unfolding decided
decided-more got more k v e = grind (arith, filter_map-append)

-- what each step keeps of it

closed-got : (m : Member) (w : Wire) → HasClosed m → HasClosed (record m { got = m.got ++ w ∷ [] })
closed-got m w f = record {
  closed = f.closed;
  idle = f.idle;
  busy = f.busy;
  batches = f.batches ∙ deliveries-same (decision m.got) (decision (m.got ++ w ∷ [])) f.closed
      (λ k lo hi.
      let d = f.decided k lo hi in
      decision-is m.got k d.value d.is ∙ sym (decision-is (m.got ++ w ∷ []) k d.value (decided-more m.got (w ∷ []) k d.value d.is)));
  decided = λ k lo hi.
      let d = f.decided k lo hi in
      record { value = d.value; is = decided-more m.got (w ∷ []) k d.value d.is };
}

-- the next instance after those that it closed is closed
closed-close : (m : Member) (last : ℕ) (v : Value) → decided m.got last ≡ Some v → (f : HasClosed m) → suc f.closed ≡ last
    → HasClosed (close m last v).member
unfolding deliveries batch_of
closed-close m last v has f l = record {
  closed = suc f.closed;
  idle = λ e. l;
  busy = λ d e. some-none d e;
  batches =
      let at_last : decision m.got (suc f.closed) ≡ v = ap (λ k. decision m.got k) l ∙ decision-is m.got last v has in
      rw (f.batches, at_last, l) refl;
  decided = λ k lo hi. elim (cases_eq k (suc f.closed)) [
    | inl e ↦ record { value = v; is = ap (λ j. decided m.got j) (e ∙ l) ∙ has }
    | inr ne ↦ f.decided k lo (omega arith)
  ];
}

closed-row : (s : Setting) (g : State) (p : ℕ) (m : Member) (step : Step) (o : Outcome) → row s g p m step ≡ Some o → HasClosed m
    → HasClosed o.member
closed-row s g p m step o e f = by_shape s g p m (λ x. HasClosed x.member) step o (record {
  submits = λ c good. f;
  gets = λ k w at. closed-got m w f;
  opens = λ idle some. grind (arith, f.idle (none-is m.current idle), f.batches, f.decided);
  turns = λ a c t open_at taken. grind (arith, f.busy c open_at, f.batches, f.decided);
  closes = λ c v open_at has delivers. closed-close m m.last v has f (f.busy c open_at);
  follows = λ v idle has delivers.
      let l : f.closed ≡ m.last = f.idle (none-is m.current idle) in closed-close m (m.last + 1) v has f (omega arith);
  marks = λ crashed. grind (arith, f.batches, f.decided);
}) e

-- each member did
abbrev pub HaveClosed : State → Type 0
HaveClosed g = (p : ℕ) → HasClosed (member g p)

closed-next : (s : Setting) (g : State) (step : Step) (h : State) → next s g step ≡ Some h → length g.members ≡ s.members → HaveClosed g →
    HaveClosed h
closed-next s g step h e size all q =
    let t = next-is s g step h e in
    let p : ℕ = actor step in
    rw (← t.gives) (elim (cases_eq (q - 1) (p - 1)) [
      | inl same ↦ rw (
        at_place (λ m. m) (after s g p t.outcome) q p same,
        member-same s g p t.outcome (in_members s g p size t.in_group),
      ) (closed-row s g p (member g p) step t.outcome t.row (all p))
      | inr other ↦ rw (member-other s g p q t.outcome other) (all q)
    ])

closed-new : HasClosed new_member
unfolding deliveries
closed-new = record { closed = 0; idle = λ e. refl; busy = λ c e. some-none c e; batches = refl; decided = λ k lo hi. absurd (omega arith) }

-- after every run the group has its size, and each member closed its instances
pub closed-run : (s : Setting) (steps : List Step) (g : State) → run s steps ≡ Some g → (length g.members ≡ s.members) × HaveClosed g
closed-run s = kept-sized HaveClosed s (λ p. rw (member-first s p) closed-new) (closed-next s)
