-- Where the keys are distinct, the entry that stands at an index is the one of its key.
use Rattle.std.proofs.Common.{◌≡◌, ℕ, zero, suc, Bool, true, false, cond, List, [], ◌∷◌, Option, None, Some, slice_get}
use Rattle.std.proofs.Common.{refl, sym, ap, ◌∙◌, subst, true≢false}
use Rattle.std.specs.Cmp.{IsEquivalence}
use Rattle.std.specs.List.{IsDistinct}
use Rattle.std.specs.Map.{keys_of, values_of, lookup, set_value}
use Rattle.std.specs.Option.{option_map_or}
use Rattle.indexmap.specs.IndexMap.{IndexMap, values, get, set_value_at, with_value_at, IsUnique, WritesThrough}
use Rattle.indexmap.proofs.CallerLemmas.{keys-with_value_at, index_map_len-with_value_at, updates-with_value_at}
use Rattle.indexmap.proofs.RemoveLemmas.{own_first}

-- an entry that passes a test is there
there : {E : Type 0} (test : E → Bool) (r : Option E) → option_map_or test r false ≡ true → (e : E) × (r ≡ Some e) × (test e ≡ true)
there test None h = absurd (true≢false (sym h))
there test (Some e) h = (e, refl, h)

module _ {K V : Type 0} (eq : K → K → Bool) (laws : IsEquivalence eq) where
  lookup-at : (es : List (K × V)) (i : ℕ) (k : K) (v : V) → IsDistinct eq (keys_of es) → slice_get es i ≡ Some (k, v) →
      slice_get (values_of es) i ≡ lookup (eq k) es
  unfolding IsDistinct
  lookup-at [] i k v distinct at = refl
  lookup-at (e ∷ es) zero k v distinct at =
      sym (ap (λ b. cond b (Some e.1) (lookup (eq k) es)) (own_first eq laws (e ∷ es) 0 k v distinct at))
  lookup-at (e ∷ es) (suc i) k v distinct at =
      lookup-at es i k v distinct.1 at
      ∙ sym (ap (λ b. cond b (Some e.1) (lookup (eq k) es)) (own_first eq laws (e ∷ es) (suc i) k v distinct at).0)

  set_value-at : (es : List (K × V)) (i : ℕ) (k : K) (v w : V) → IsDistinct eq (keys_of es) → slice_get es i ≡ Some (k, v) →
      set_value_at es i w ≡ set_value (eq k) es w
  unfolding IsDistinct
  set_value-at [] i k v w distinct at = refl
  set_value-at (e ∷ es) zero k v w distinct at =
      sym (ap (λ b. cond b ((e.0, w) ∷ es) (e ∷ set_value (eq k) es w)) (own_first eq laws (e ∷ es) 0 k v distinct at))
  set_value-at (e ∷ es) (suc i) k v w distinct at =
      ap (λ l. e ∷ l) (set_value-at es i k v w distinct.1 at)
      ∙ sym (ap (λ b. cond b ((e.0, w) ∷ es) (e ∷ set_value (eq k) es w)) (own_first eq laws (e ∷ es) (suc i) k v distinct at).0)

  module _ {S : Type 0} (m : IndexMap K V S) (i : ℕ) (key : K) (unique : IsUnique eq m)
      (found : option_map_or (λ e. eq key e.0) (slice_get m.entries i) false ≡ true) where
    at : (e : K × V) × (slice_get m.entries i ≡ Some e) × (eq key e.0 ≡ true)
    at = there (λ e. eq key e.0) (slice_get m.entries i) found

    same_test : eq key ≡ eq at.0.0
    same_test = λ j q. laws.congr key at.0.0 q at.2 j

    -- its value is that of the key
    pub value-at : slice_get (values m) i ≡ get eq m key
    value-at = lookup-at m.entries i at.0.0 at.0.1 unique at.1 ∙ sym (ap (λ t. lookup t m.entries) same_test)

    -- and what is written there is written at the key
    pub written-at : (w : V) → WritesThrough eq (eq key) m w (with_value_at m i w)
    written-at w = subst (λ t. WritesThrough eq t m w (with_value_at m i w)) (sym same_test) (
      set_value-at m.entries i at.0.0 at.0.1 w unique at.1,
      keys-with_value_at m i w,
      index_map_len-with_value_at m i w,
      (λ _. updates-with_value_at m i w laws unique at.0.0 at.0.1 at.1),
      subst (IsDistinct eq) (sym (keys-with_value_at m i w)) unique,
      refl,
      refl,
    )
