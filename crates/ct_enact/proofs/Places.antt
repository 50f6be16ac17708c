-- Places in lists.
use Rattle.std.proofs.Common.{◌≡◌, ℕ, zero, suc, ◌+◌, ◌<◌, ◌≤◌, ◌==◌, Bool, true, false, List, [], ◌∷◌, Option, Some, None}
use Rattle.std.proofs.Common.{inl, inr, length, slice_get, get_or, map, option_map, refl, sym, ap, ◌∙◌, subst, arith, eqb-true, eq-eqb}
use Rattle.std.specs.Prelude.{if◌then◌else◌}
use Rattle.std.proofs.lemmas.Option.{none-some, same_Some, slice_get_within, slice_get-get_or, slice_get-map}
use Rattle.ct_names.specs.Membership.{IsIn, IsWithoutRepeats}
use Rattle.ct_names.specs.Prefix.{OneBegins}
use Rattle.ct_model.proofs.Record.Senders.{get-front}

is_in : {A : Type 0} (xs : List A) (i : ℕ) (x : A) → slice_get xs i ≡ Some x → IsIn x xs
is_in [] i x e = absurd (none-some x e)
is_in (y ∷ ys) zero x e = inl (sym (same_Some y x e))
is_in (y ∷ ys) (suc i) x e = inr (is_in ys i x e)

pub one_place : {A : Type 0} (xs : List A) (i j : ℕ) (x : A) → IsWithoutRepeats xs → slice_get xs i ≡ Some x → slice_get xs j ≡ Some x →
    i ≡ j
one_place [] i j x h a b = absurd (none-some x a)
one_place (y ∷ ys) zero zero x h a b = refl
one_place (y ∷ ys) zero (suc j) x h a b = absurd (h.0 (subst (λ z. IsIn z ys) (sym (same_Some y x a)) (is_in ys j x b)))
one_place (y ∷ ys) (suc i) zero x h a b = absurd (h.0 (subst (λ z. IsIn z ys) (sym (same_Some y x b)) (is_in ys i x a)))
one_place (y ∷ ys) (suc i) (suc j) x h a b = ap suc (one_place ys i j x h.1 a b)

-- what stands at a place of a list stands there in another that is no shorter, where one of them begins the other
pub in_longer : {A : Type 0} (xs ys : List A) (i : ℕ) (x : A) → OneBegins xs ys → length xs ≤ length ys → slice_get xs i ≡ Some x →
    slice_get ys i ≡ Some x
in_longer xs ys i x (inl p) few e = subst (λ l. slice_get l i ≡ Some x) p.1 (get-front xs p.0 i x e)
in_longer xs ys i x (inr p) few e =
    let within = slice_get_within xs i x e in
    let there = slice_get-get_or ys i x (let k : i < length ys = omega (arith, within, few) in k) in
    there ∙ ap Some (same_Some (get_or ys i x) x
    (sym (subst (λ l. slice_get l i ≡ Some (get_or ys i x)) p.1 (get-front ys p.0 i (get_or ys i x) there)) ∙ e))

-- ---- what is so at each place

-- at the places before this one
abbrev pub Before : {A : Type 0} → (ℕ → A → Type 0) → List A → ℕ → Type 0
Before {A} Q xs i = (j : ℕ) (y : A) → j < i → slice_get xs j ≡ Some y → Q j y

pub none_before : {A : Type 0} (Q : ℕ → A → Type 0) (xs : List A) → Before Q xs 0
none_before Q xs j y less at = absurd (omega (arith, less))

pub next_before : {A : Type 0} (Q : ℕ → A → Type 0) (xs : List A) (i : ℕ) (x : A) → Before Q xs i → slice_get xs i ≡ Some x → Q i x →
    Before Q xs (i + 1)
next_before {A} Q xs i x before there this j y less at = pick (j == i) refl
  where
    pick : (b : Bool) → (j == i) ≡ b → Q j y
    pick true e =
        let same = eqb-true j i e in
        subst (λ k. Q k y) (sym same) (subst (Q i) (same_Some x y (sym there ∙ (ap (slice_get xs) (sym same) ∙ at))) this)
    pick false e = before j y (grind (arith, eq-eqb, e, less)) at

pub all_before : {A : Type 0} (Q : ℕ → A → Type 0) (xs : List A) (i : ℕ) → Before Q xs i → length xs ≤ i → (j : ℕ) (y : A) →
    slice_get xs j ≡ Some y → Q j y
all_before Q xs i before few j y at = let within = slice_get_within xs j y at in before j y (omega (arith, within, few)) at

-- what stands at a place of a list of which each is made of one of another
pub of_map : {A B : Type 0} (f : A → B) (Q : ℕ → B → Type 0) (xs : List A) → ((i : ℕ) (x : A) → slice_get xs i ≡ Some x → Q i (f x)) →
    (i : ℕ) (y : B) → slice_get (map f xs) i ≡ Some y → Q i y
of_map {A} {B} f Q xs all i y e = pick (slice_get xs i) refl
  where
    pick : (o : Option A) → slice_get xs i ≡ o → Q i y
    pick None is = absurd (none-some y (sym (slice_get-map f xs i ∙ ap (option_map f) is) ∙ e))
    pick (Some x) is = subst (Q i) (same_Some (f x) y (sym (slice_get-map f xs i ∙ ap (option_map f) is) ∙ e)) (all i x is)

pub if_some : {A : Type 0} (b : Bool) (x y : A) → Some x ≡ (if b then Some y else None) → (b ≡ true) × (x ≡ y)
if_some true x y e = (refl, same_Some x y e)
if_some false x y e = absurd (none-some x (sym e))
