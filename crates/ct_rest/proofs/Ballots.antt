-- What a member reads off the wires that it got, where they came: who was heard, who replied, the proposal; a majority's
-- estimates have a largest ts.
use Rattle.std.proofs.Common.{◌≡◌, ℕ, ◌≤◌, Bool, true, ◌==◌, nat_le, List, [], ◌∷◌, filter_map, map, Some, refl, ap}
use Rattle.std.proofs.Common.{inl, inr, ◌⊎◌, eqb-true, arith}
use Rattle.std.specs.List.{list_all}
use Rattle.std.proofs.lemmas.Bool.{cases_lt}
use Rattle.std.proofs.lemmas.Bool.Decides.{nat_tests}
use Rattle.ct_names.specs.declared.limit.TheConstants.{MAX_MEMBERS}
use Rattle.ct_names.specs.Group.{everyone, members, is_majority, IsMajority, IsMember}
use Rattle.ct_names.specs.Membership.{IsIn, IsWithoutRepeats}
use Rattle.ct_names.specs.Value.{Value}
use Rattle.ct_names.proofs.Groups.{no_longer, in-counting}
use Rattle.ct_names.proofs.Lists
use Rattle.ct_model.specs.AtValue.{Wire}
use Rattle.ct_model.specs.declared.wire.Wire.TheVariants.{Est, Prop, Ack, Nack}
use Rattle.ct_model.specs.Received.{Heard, Ballots, ballots, heard, estimate_of, heard_from, estimate_from, is_largest}
use Rattle.ct_model.specs.Received.{proposal_of, proposal}
use Rattle.ct_model.proofs.Consensus.Readings

-- a set that has all of a majority is one
pub majority_of_more : (n : ℕ) (xs ys : List ℕ) → IsWithoutRepeats xs → IsMajority n xs → ((p : ℕ) → IsIn p xs → IsIn p ys) →
    is_majority n ys ≡ true
majority_of_more n xs ys once some sub = grind (arith, nat_tests, no_longer)

-- a member may be counted
pub countable : (n p : ℕ) → n ≤ MAX_MEMBERS → IsMember n p → IsIn p everyone
unfolding members
countable n p few is = let low : 1 ≤ p = is.0 in let high : p ≤ n = is.1 in in-counting 1 MAX_MEMBERS p low (omega arith)

module _ (got : List Wire) (k r : ℕ) where
  -- a Prop that was got makes a proposal
  pub proposal-came : (v : Value) → IsIn (Prop k r v) got → (w : Value) × ((ballots got k r).proposal ≡ Some w)
  unfolding ballots proposal
  proposal-came v h = Readings.head-is (filter_map (proposal_of k r) got) v
      (Lists.IsIn-filter_map (proposal_of k r) (Prop k r v) v got (grind (arith, nat_tests)) h)

  -- who replied is counted
  pub reply-came : (q : ℕ) → IsIn q everyone → IsIn (Ack k r q) got ⊎ IsIn (Nack k r q) got → IsIn q (ballots got k r).replied
  unfolding ballots
  reply-came q counted h = grind (arith, nat_tests, Lists.IsIn-filter, Lists.list_any-found)

  -- whose estimate came is heard
  pub estimate-came : (q ts : ℕ) (v : Value) → IsIn q everyone → IsIn (Est k r q v ts) got → IsIn q (heard (ballots got k r))
  unfolding ballots
  estimate-came q ts v counted h =
      let x : Heard Value = record { member = q; value = v; ts = ts } in
      let of : ℕ → Heard Value → Bool = λ p e. e.member == p in
      let listed : IsIn x (filter_map (estimate_of k r) got) =
      Lists.IsIn-filter_map (estimate_of k r) (Est k r q v ts) x got (grind (arith, nat_tests)) h in
      let f = Readings.find-some (of q) x (filter_map (estimate_of k r) got) listed (grind (arith, nat_tests)) in
      let its = eqb-true f.0.member q (Lists.found-find (of q) f.0 (filter_map (estimate_of k r) got) f.1).1 in
      let inside = Lists.IsIn-filter_map (heard_from got k r) q f.0 everyone f.1 counted in
      rw its at (Lists.IsIn-map (λ (e : Heard Value). e.member) f.0 (filter_map (heard_from got k r) everyone) inside)

-- the largest ts among estimates

weaker : (a b : ℕ) (es : List (Heard Value)) → a ≤ b → list_all (λ e. nat_le e.ts a) es ≡ true → list_all (λ e. nat_le e.ts b) es ≡ true
weaker a b [] le h = refl
weaker a b (e ∷ es) le h = grind (arith, nat_tests, weaker a b es)

record IsLargest (es : List (Heard Value)) : Type 0 where
  best : Heard Value
  is_in : IsIn best es
  largest : list_all (λ e. nat_le e.ts best.ts) es ≡ true

largest-of : (e : Heard Value) (es : List (Heard Value)) → IsLargest (e ∷ es)
largest-of e [] = record { best = e; is_in = inl refl; largest = grind (arith, nat_tests) }
largest-of e (f ∷ es) =
    let rest = largest-of f es in
    elim (cases_lt rest.best.ts e.ts) [
      | inl lt ↦ record {
        best = e;
        is_in = inl refl;
        largest = grind (arith, nat_tests, weaker rest.best.ts e.ts (f ∷ es) (omega arith) rest.largest);
      }
      | inr le ↦ record { best = rest.best; is_in = inr rest.is_in; largest = grind (arith, nat_tests, rest.largest) }
    ]

-- each member has one estimate
one_each : (es : List (Heard Value)) → IsWithoutRepeats (map (λ e. e.member) es) → (a b : Heard Value) → IsIn a es → IsIn b es →
    a.member ≡ b.member → a ≡ b
one_each [] once a b ha hb e = absurd ha
one_each (x ∷ es) once a b ha hb e = grind (arith, Lists.IsIn-map (λ (y : Heard Value). y.member), one_each es once.1 a b)

-- of those heard one may be chosen
pub record IsChoice (t : Ballots Value) : Type 0 where
  pub from : ℕ
  pub estimate : Heard Value
  pub is : estimate_from t from ≡ Some estimate
  pub largest : is_largest t estimate.ts ≡ true

some-largest : (q : ℕ) (es : List (Heard Value)) → IsIn q (map (λ e. e.member) es) → IsLargest es
some-largest q [] h = absurd h
some-largest q (e ∷ es) h = largest-of e es

pub choice : (t : Ballots Value) (q : ℕ) → IsWithoutRepeats (heard t) → IsIn q (heard t) → IsChoice t
choice t q once h =
    let top = some-largest q t.estimates h in
    let of : Heard Value → Bool = λ x. x.member == top.best.member in
    let f = Readings.find-some of top.best t.estimates top.is_in (grind (arith, nat_tests)) in
    let found = Lists.found-find of f.0 t.estimates f.1 in
    let same = one_each t.estimates once f.0 top.best found.0 top.is_in (eqb-true f.0.member top.best.member found.1) in
    record { from = top.best.member; estimate = f.0; is = f.1; largest = rw (ap (λ (x : Heard Value). x.ts) same) top.largest }
