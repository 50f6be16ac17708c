-- The largest instance with a decision, from what is kept of a member's instances.
use Rattle.std.proofs.Common.{◌≡◌, ℕ, ◌≤◌, ◌==◌, true, List, [], ◌∷◌, Option, Some, filter_map, fold, refl, sym, ap, subst, ◌∙◌, arith, inl}
use Rattle.std.proofs.Common.{inr, ◌⊎◌, eq-eqb, eqb-true}
use Rattle.std.specs.Prelude.{max, nat_eq, is_some, option_and_then}
use Rattle.std.specs.List.{reduce}
use Rattle.std.specs.Map.{keys_of, lookup}
use Rattle.std.proofs.lemmas.Bool.{cases_lt}
use Rattle.std.proofs.lemmas.Map.Made.{is_some-lookup}
use Rattle.ct_names.specs.Membership.{IsIn}
use Rattle.ct_names.specs.Value.{Value}
use Rattle.ct_names.proofs.Lists.{IsIn-filter, IsIn-filter_passes, IsIn-filter_map, from_filter_map, found-list_any, true_or_false}
use Rattle.ct_model.specs.AtValue.{Wire}
use Rattle.ct_model.specs.Rehearsal.{Rehearsal}
use Rattle.ct_names.specs.Group.{is_member}
use Rattle.ct_model.specs.declared.wire.Wire.TheVariants.{Dec}
use Rattle.ct_model.specs.Received.{head, decision_of, decided}
use Rattle.ct_instances.specs.declared.entry.Entry.{Entry}
use Rattle.ct_instances.specs.Kept.{Kept, entry_of, decision_at}
use Rattle.ct_instances.specs.Decided.{decided_instances}
use Rattle.ct_instances.specs.Named.{NamesDecision}
use Rattle.ct_instances.proofs.Named.{named_is_some}
use Rattle.ct_world.specs.Decided.{decided_instance, last_decided}
use Rattle.ct_world.specs.World.{if_member}

-- the largest of a list depends on nothing but what is in it

max-one : (a x : ℕ) → (max a x ≡ a) ⊎ (max a x ≡ x)
max-one a x = elim (cases_lt a x) [ inl lt ↦ inr (omega arith) | inr ge ↦ inl (omega arith) ]

largest-in : (a : ℕ) (xs : List ℕ) → IsIn (fold max a xs) (a ∷ xs)
largest-in a [] = inl refl
largest-in a (x ∷ xs) = elim (largest-in (max a x) xs) [
  | inl e ↦ elim (max-one a x) [ inl l ↦ inl (e ∙ l) | inr r ↦ inr (inl (e ∙ r)) ]
  | inr h ↦ inr (inr h)
]

above : (a : ℕ) (xs : List ℕ) → a ≤ fold max a xs
above a [] = omega arith
above a (x ∷ xs) = let rest = above (max a x) xs in omega arith

largest-above : (k a : ℕ) (xs : List ℕ) → IsIn k (a ∷ xs) → k ≤ fold max a xs
largest-above k a xs (inl e) = let h = above a xs in omega arith
largest-above k a [] (inr h) = absurd h
largest-above k a (x ∷ xs) (inr (inl e)) = let h = above (max a x) xs in omega arith
largest-above k a (x ∷ xs) (inr (inr h)) = largest-above k (max a x) xs (inr h)

same_largest : (xs ys : List ℕ) → ((k : ℕ) → IsIn k xs → IsIn k ys) → ((k : ℕ) → IsIn k ys → IsIn k xs) → reduce max xs ≡ reduce max ys
same_largest [] [] to from = refl
same_largest [] (y ∷ ys) to from = absurd (from y (inl refl))
same_largest (x ∷ xs) [] to from = absurd (to x (inl refl))
same_largest (x ∷ xs) (y ∷ ys) to from =
    let low = largest-above (fold max x xs) y ys (to (fold max x xs) (largest-in x xs)) in
    let high = largest-above (fold max y ys) x xs (from (fold max y ys) (largest-in y ys)) in
    ap Some (omega arith)

-- the instances with a decision, among the entries

entry-some : (o : Option Entry) → is_some (option_and_then (λ e. e.decision) o) ≡ true → is_some o ≡ true
entry-some o h = grind arith

in-entries : (kept : Kept) (k : ℕ) → is_some (decision_at kept k) ≡ true → IsIn k (decided_instances kept)
in-entries kept k some =
    let there : is_some (lookup (nat_eq k) kept.entries) ≡ true = entry-some (entry_of kept k) some in
    let found = found-list_any (nat_eq k) (keys_of kept.entries) (sym (is_some-lookup (nat_eq k) kept.entries) ∙ there) in
    IsIn-filter (λ j. is_some (decision_at kept j)) k (keys_of kept.entries) some
    (subst (λ j. IsIn j (keys_of kept.entries)) (sym (eqb-true k found.item found.passes)) found.is_in)

-- and among the wires

is_decision : (w : Wire) (k : ℕ) → decided_instance w ≡ Some k → (v : Value) × (decision_of k w ≡ Some v)
is_decision (Dec j r v) k e = let same : (j == k) ≡ true = eq-eqb j k (cc) in (v, rw same refl)
is_decision _ k e = cc

has_instance : (w : Wire) (k : ℕ) (v : Value) → decision_of k w ≡ Some v → decided_instance w ≡ Some k
has_instance (Dec j r u) k v e = grind (arith, true_or_false (j == k))
has_instance _ k v e = cc

head-some : {A : Type 0} (x : A) (xs : List A) → IsIn x xs → is_some (head xs) ≡ true
head-some x [] h = absurd h
head-some x (y ∷ xs) h = refl

head-in : {A : Type 0} (xs : List A) → is_some (head xs) ≡ true → (x : A) × IsIn x xs
head-in [] h = cc
head-in (x ∷ xs) h = (x, inl refl)

wires-decided : (got : List Wire) (k : ℕ) → IsIn k (filter_map decided_instance got) → is_some (decided got k) ≡ true
unfolding decided
wires-decided got k h =
    let t = from_filter_map decided_instance k got h in
    let d = is_decision t.source k t.gives in
    head-some d.0 (filter_map (decision_of k) got) (IsIn-filter_map (decision_of k) t.source d.0 got d.1 t.is_in)

decided-wires : (got : List Wire) (k : ℕ) → is_some (decided got k) ≡ true → IsIn k (filter_map decided_instance got)
unfolding decided
decided-wires got k h =
    let v = head-in (filter_map (decision_of k) got) h in
    let t = from_filter_map (decision_of k) v.0 got v.1 in
    IsIn-filter_map decided_instance t.source k got (has_instance t.source k v.0 t.gives) t.is_in

pub last_decided-is : (values : List Value) (kept : Kept) (got : List Wire) →
    ((k : ℕ) → NamesDecision values (decision_at kept k) (decided got k)) → reduce max (decided_instances kept) ≡ last_decided got
unfolding last_decided
last_decided-is values kept got names =
    same_largest (decided_instances kept) (filter_map decided_instance got)
    (λ k h. decided-wires got k (sym (named_is_some values (decision_at kept k) (decided got k) (names k))
    ∙ IsIn-filter_passes (λ j. is_some (decision_at kept j)) k (keys_of kept.entries) h))
    (λ k h. in-entries kept k (named_is_some values (decision_at kept k) (decided got k) (names k) ∙ wires-decided got k h))

pub if_this : {A : Type 0} (w : Rehearsal) (p : ℕ) (x : Option A) → is_member w.setting.members p ≡ true → x ≡ if_member w p x
if_this w p x in_group = rw in_group refl
