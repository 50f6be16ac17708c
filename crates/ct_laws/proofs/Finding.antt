-- What is found in lists.
use Rattle.std.specs.Prelude.{replicate, ⊤}
use Rattle.std.proofs.Common.{ℕ, zero, suc, ◌++◌, map, set, get_or, subst, sym}
use Rattle.std.proofs.Common.{◌≡◌, inl, inr, Bool, true, false, List, [], ◌∷◌, Option, Some, None, find, refl, ap, ◌∙◌, arith}
use Rattle.std.specs.Prelude.{if◌then◌else◌}
use Rattle.ct_names.specs.Membership.{IsIn}
use Rattle.ct_names.proofs.Lists.{contrary}

-- where none is found, none passes
pub none_passes : {A : Type 0} (test : A → Bool) (xs : List A) → find test xs ≡ None → (x : A) → IsIn x xs → test x ≡ false
none_passes test [] h x never = absurd never
none_passes test (y ∷ ys) h x at = grind (arith, none_passes test ys)

pub none_found : {A : Type 0} (test : A → Bool) (xs : List A) → ((x : A) → IsIn x xs → test x ≡ false) → find test xs ≡ None
none_found test [] h = refl
none_found test (y ∷ ys) h =
    ap (λ b. if b then Some y else find test ys) (h y (inl refl)) ∙ none_found test ys (λ x at. h x (inr at))

not_none : {A : Type 0} (o : Option A) → (o ≡ None → ⊥) → (x : A) × (o ≡ Some x)
not_none None h = absurd (h refl)
not_none (Some x) h = (x, refl)

-- where one passes, one is found
pub find_there : {A : Type 0} (test : A → Bool) (x : A) (xs : List A) → IsIn x xs → test x ≡ true → (z : A) × (find test xs ≡ Some z)
find_there test x xs h so = not_none (find test xs) (λ none. contrary (test x) so (none_passes test xs none x h))

-- ---- what holds of each

-- it holds of each
abbrev pub Each : {A : Type 0} → (A → Type 0) → List A → Type 0
Each P [] = ⊤
Each P (x ∷ xs) = P x × Each P xs

pub each_any : {A : Type 0} (xs : List A) → Each (λ x. ⊤) xs
each_any [] = tt
each_any (x ∷ xs) = (tt, each_any xs)

-- what holds of each holds of one of them
pub each_one : {A : Type 0} (P : A → Type 0) (xs : List A) (x : A) → Each P xs → IsIn x xs → P x
each_one P [] x h never = absurd never
each_one P (y ∷ xs) x h (inl same) = subst P (sym same) h.0
each_one P (y ∷ xs) x h (inr later) = each_one P xs x h.1 later

pub each_from : {A : Type 0} (P : A → Type 0) (xs : List A) → ((x : A) → IsIn x xs → P x) → Each P xs
each_from P [] h = tt
each_from P (x ∷ xs) h = (h x (inl refl), each_from P xs (λ y i. h y (inr i)))

pub each_map : {A B : Type 0} (P : A → Type 0) (Q : B → Type 0) (f : A → B) (xs : List A) → Each P xs → ((x : A) → P x → Q (f x)) →
    Each Q (map f xs)
each_map P Q f [] h g = tt
each_map P Q f (x ∷ xs) h g = (g x h.0, each_map P Q f xs h.1 g)

pub each_both : {A : Type 0} (P : A → Type 0) (xs ys : List A) → Each P xs → Each P ys → Each P (xs ++ ys)
each_both P [] ys h k = k
each_both P (x ∷ xs) ys h k = (h.0, each_both P xs ys h.1 k)

pub each_replicate : {A : Type 0} (P : A → Type 0) (n : ℕ) (x : A) → P x → Each P (replicate n x)
each_replicate P zero x h = tt
each_replicate P (suc n) x h = (h, each_replicate P n x h)

pub each_set : {A : Type 0} (P : A → Type 0) (xs : List A) (i : ℕ) (x : A) → Each P xs → P x → Each P (set xs i x)
each_set P [] i x h here = tt
each_set P (y ∷ xs) zero x h here = (here, h.1)
each_set P (y ∷ xs) (suc i) x h here = (h.0, each_set P xs i x h.1 here)

pub each_get : {A : Type 0} (P : A → Type 0) (xs : List A) (i : ℕ) (other : A) → Each P xs → P other → P (get_or xs i other)
each_get P [] i other h here = here
each_get P (y ∷ xs) zero other h here = h.0
each_get P (y ∷ xs) (suc i) other h here = each_get P xs i other h.1 here
