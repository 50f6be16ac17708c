-- What is read off the wires that were got was among them.
use Rattle.std.proofs.Common.{◌≡◌, ℕ, ◌≤◌, Bool, true, ◌==◌, nat_le, List, [], ◌∷◌, filter_map, find, map, Option, Some, None}
use Rattle.std.proofs.Common.{refl, sym, inl, inr, eqb-true, leb-true, arith}
use Rattle.std.specs.List.{cons_option}
use Rattle.std.proofs.lemmas.Bool.Decides.{nat_tests}
use Rattle.ct_names.specs.Group.{everyone}
use Rattle.ct_names.specs.Membership.{IsIn, IsWithoutRepeats}
use Rattle.ct_names.specs.Message.{Message}
use Rattle.ct_names.specs.Value.{Value}
use Rattle.ct_names.proofs.Groups
use Rattle.ct_names.proofs.Lists
use Rattle.ct_names.proofs.Values
use Rattle.ct_model.specs.AtValue.{Wire}
use Rattle.ct_model.specs.declared.wire.Wire.TheVariants.{Data, Est, Prop, Ack, Dec}
use Rattle.ct_model.specs.Received.{head, message_of, received, decision_of, is_decision, decided, Heard, Ballots, ballots, heard}
use Rattle.ct_model.specs.Received.{estimate_of, heard_from, estimate_from, is_largest, proposal_of, proposal, is_ack, has_ack, ackers}
use Rattle.ct_model.proofs.Basics.Options.{some-same, some-none, some-of}

in-head : {A : Type 0} (xs : List A) (x : A) → head xs ≡ Some x → IsIn x xs
in-head [] x e = some-none x e
in-head (y ∷ xs) x e = inl (sym (some-same y x e))

pub received-got : (got : List Wire) (m : Message) → IsIn m (received got) → IsIn (Data m) got
unfolding received
received-got got m h = grind (arith, Lists.from_filter_map, Values.first_occurrences-from)

pub got-received : (got : List Wire) (m : Message) → IsIn (Data m) got → IsIn m (received got)
unfolding received
got-received got m h = Values.first_occurrences-in (filter_map message_of got) m (Lists.IsIn-filter_map message_of (Data m) m got refl h)

pub record IsDecision (k : ℕ) (v : Value) (w : Wire) : Type 0 where
  pub round : ℕ
  pub wire : w ≡ Dec k round v

decision-wire : (k : ℕ) (w : Wire) (v : Value) → decision_of k w ≡ Some v → IsDecision k v w
decision-wire k (Dec j r x) v e = record { round = r; wire = grind (arith, nat_tests) }
decision-wire k _ v e = some-none v e

-- a decision came with a Dec
pub record IsDecided (k : ℕ) (v : Value) (got : List Wire) : Type 0 where
  pub round : ℕ
  pub is_in : IsIn (Dec k round v) got

pub decided-got : (got : List Wire) (k : ℕ) (v : Value) → decided got k ≡ Some v → IsDecided k v got
unfolding decided
decided-got got k v e =
    let t = Lists.from_filter_map (decision_of k) v got (in-head (filter_map (decision_of k) got) v e) in
    let d = decision-wire k t.source v t.gives in
    record { round = d.round; is_in = rw d.wire at t.is_in }

pub head-is : {A : Type 0} (xs : List A) (x : A) → IsIn x xs → (y : A) × (head xs ≡ Some y)
head-is [] x h = absurd h
head-is (y ∷ xs) x h = (y, refl)

-- where an element passes the test the first one that does is found
pub find-some : {A : Type 0} (test : A → Bool) (x : A) (xs : List A) → IsIn x xs → test x ≡ true → (y : A) × (find test xs ≡ Some y)
find-some test x [] h pass = absurd h
find-some test x (y ∷ xs) (inl e) pass = (y, rw (rw e at pass) refl)
find-some test x (y ∷ xs) (inr h) pass = some-of (find test (y ∷ xs)) (let rest = find-some test x xs h pass in grind (arith, rest.1))

-- a Dec that was got makes a decision
pub got-decided : (got : List Wire) (k r : ℕ) (v : Value) → IsIn (Dec k r v) got → (w : Value) × (decided got k ≡ Some w)
unfolding decided
got-decided got k r v h =
    head-is (filter_map (decision_of k) got) v (Lists.IsIn-filter_map (decision_of k) (Dec k r v) v got (grind (arith, nat_tests)) h)

-- a wire that is a Dec of the round
pub is_decision-wire : (k r : ℕ) (w : Wire) → is_decision k r w ≡ true → (v : Value) × (w ≡ Dec k r v)
is_decision-wire k r (Dec j i v) h = (v, grind (arith, nat_tests))
is_decision-wire k r _ h = absurd (cc)

-- the proposal of a round is that of a Prop that was got

proposal-wire : (k r : ℕ) (w : Wire) (v : Value) → proposal_of k r w ≡ Some v → w ≡ Prop k r v
proposal-wire k r w v e = grind (arith, nat_tests)

pub proposal-got : (got : List Wire) (k r : ℕ) (v : Value) → (ballots got k r).proposal ≡ Some v → IsIn (Prop k r v) got
unfolding ballots proposal
proposal-got got k r v e =
    let t = Lists.from_filter_map (proposal_of k r) v got (in-head (filter_map (proposal_of k r) got) v e) in
    rw (proposal-wire k r t.source v t.gives) at t.is_in

-- the estimates of a round are those of Ests that were got, one of each member

estimate-wire : (k r : ℕ) (w : Wire) (e : Heard Value) → estimate_of k r w ≡ Some e → w ≡ Est k r e.member e.value e.ts
estimate-wire k r w e is = grind (arith, nat_tests)

heard_from-got : (got : List Wire) (k r p : ℕ) (e : Heard Value) → heard_from got k r p ≡ Some e →
    IsIn (Est k r e.member e.value e.ts) got × (e.member ≡ p)
heard_from-got got k r p e is =
    let f = Lists.found-find (λ (x : Heard Value). x.member == p) e (filter_map (estimate_of k r) got) is in
    let t = Lists.from_filter_map (estimate_of k r) e got f.0 in
    (rw (estimate-wire k r t.source e t.gives) at t.is_in, eqb-true e.member p f.1)

pub estimates-got : (got : List Wire) (k r : ℕ) (e : Heard Value) → IsIn e (ballots got k r).estimates →
    IsIn (Est k r e.member e.value e.ts) got
unfolding ballots
estimates-got got k r e h =
    let t = Lists.from_filter_map (heard_from got k r) e everyone h in
    (heard_from-got got k r t.source e t.gives).0

-- where a map took an element from
of_map : {A B : Type 0} (f : A → B) (y : B) (xs : List A) → IsIn y (map f xs) → (x : A) × IsIn x xs × (y ≡ f x)
of_map f y [] h = absurd h
of_map f y (z ∷ xs) (inl e) = (z, inl refl, e)
of_map f y (z ∷ xs) (inr i) = let r = of_map f y xs i in (r.0, inr r.1, r.2)

heard-among : (got : List Wire) (k r x : ℕ) (ps : List ℕ) → IsIn x (map (λ e. e.member) (filter_map (heard_from got k r) ps)) → IsIn x ps
heard-among got k r x ps h =
    let m = of_map (λ (e : Heard Value). e.member) x (filter_map (heard_from got k r) ps) h in
    let t = Lists.from_filter_map (heard_from got k r) m.0 ps m.1 in
    rw (m.2, (heard_from-got got k r t.source m.0 t.gives).1) t.is_in

heard-once_cases : (got : List Wire) (k r p : ℕ) (ps : List ℕ) (o : Option (Heard Value)) → heard_from got k r p ≡ o → (IsIn p ps → ⊥) →
    IsWithoutRepeats (map (λ e. e.member) (filter_map (heard_from got k r) ps)) →
    IsWithoutRepeats (map (λ e. e.member) (cons_option o (filter_map (heard_from got k r) ps)))
heard-once_cases got k r p ps None is out rest = rest
heard-once_cases got k r p ps (Some e) is out rest =
    ((λ h. out (heard-among got k r p ps (rw (heard_from-got got k r p e is).1 at h))), rest)

heard-once_of : (got : List Wire) (k r : ℕ) (ps : List ℕ) → IsWithoutRepeats ps →
    IsWithoutRepeats (map (λ e. e.member) (filter_map (heard_from got k r) ps))
heard-once_of got k r [] once = tt
heard-once_of got k r (p ∷ ps) once = heard-once_cases got k r p ps (heard_from got k r p) refl once.0 (heard-once_of got k r ps once.1)

-- no member is heard twice
pub heard-once : (got : List Wire) (k r : ℕ) → IsWithoutRepeats (heard (ballots got k r))
unfolding ballots
heard-once got k r = heard-once_of got k r everyone Groups.once-everyone

pub estimate_from-in : (t : Ballots Value) (p : ℕ) (e : Heard Value) → estimate_from t p ≡ Some e → IsIn e t.estimates
estimate_from-in t p e is = (Lists.found-find (λ (x : Heard Value). x.member == p) e t.estimates is).0

-- an estimate of p among those heard
pub record IsHeardFrom (t : Ballots Value) (p : ℕ) : Type 0 where
  pub estimate : Heard Value
  pub is_in : IsIn estimate t.estimates
  pub member : estimate.member ≡ p

pub heard-in : (t : Ballots Value) (p : ℕ) → IsIn p (heard t) → IsHeardFrom t p
heard-in t p h = let m = of_map (λ (e : Heard Value). e.member) p t.estimates h in record { estimate = m.0; is_in = m.1; member = sym m.2 }

pub largest-in : (t : Ballots Value) (ts : ℕ) (e : Heard Value) → is_largest t ts ≡ true → IsIn e t.estimates → e.ts ≤ ts
largest-in t ts e is h = leb-true e.ts ts (Lists.passes-list_all (λ (x : Heard Value). nat_le x.ts ts) e t.estimates is h)

-- who acked a round, among the ballots

pub acked-of : (got : List Wire) (k r : ℕ) → (ballots got k r).acked ≡ ackers got k r
acked-of got k r = unfold ballots in refl

ack-wire : (k r p : ℕ) (w : Wire) → is_ack k r p w ≡ true → w ≡ Ack k r p
ack-wire k r p w h = grind arith

pub acker-got : (got : List Wire) (k r p : ℕ) → IsIn p (ackers got k r) → IsIn (Ack k r p) got
acker-got got k r p h =
    let f = Lists.found-list_any (is_ack k r p) got (Lists.IsIn-filter_passes (has_ack got k r) p everyone h) in
    rw (ack-wire k r p f.item f.passes) at f.is_in
