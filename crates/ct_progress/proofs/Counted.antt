-- How many messages lists without repeats have, of which one has all of the other.
use Rattle.std.proofs.Common.{◌≡◌, ℕ, suc, ◌≤◌, ◌==◌, Bool, not, List, [], ◌∷◌, filter, length, refl, inl, inr, arith}
use Rattle.std.proofs.lemmas.Bool.{cases_Bool}
use Rattle.std.proofs.lemmas.Bool.Decides.{nat_tests}
use Rattle.ct_names.specs.Membership.{IsIn, IsWithoutRepeats}
use Rattle.ct_names.specs.Message.{Message}
use Rattle.ct_names.specs.Order.{is_message}
use Rattle.ct_names.specs.Value.{has}
use Rattle.ct_names.proofs.Lists
use Rattle.ct_names.proofs.Values.{same_message, is_message-refl, in-has, has-in}
use Rattle.ct_model.specs.State.{submissions}

-- without one of its messages a list is shorter
drop_one : (x : Message) (ys : List Message) → IsIn x ys → suc (length (filter (λ y. not (is_message x y)) ys)) ≤ length ys
drop_one x [] h = absurd h
drop_one x (y ∷ ys) h = grind (arith, is_message-refl x, Lists.filter-shorter (λ z. not (is_message x z)) ys, drop_one x ys)

-- a list without repeats is no longer than one that has all its messages
no_longer : (xs ys : List Message) → IsWithoutRepeats xs → ((m : Message) → IsIn m xs → IsIn m ys) → length xs ≤ length ys
no_longer [] ys once sub = omega arith
no_longer (x ∷ xs) ys once sub =
    let test : Message → Bool = λ y. not (is_message x y) in
    let kept : (m : Message) → IsIn m xs → IsIn m (filter test ys) =
    λ m h. Lists.IsIn-filter test m ys (grind (arith, same_message x m, once.0)) (sub m (inr h)) in
    let rest = no_longer xs (filter test ys) once.1 kept in
    let one = drop_one x ys (sub x (inl refl)) in
    omega arith

-- where it is no shorter either it has all of the other's
has_each : (xs ys : List Message) → IsWithoutRepeats xs → ((m : Message) → IsIn m xs → IsIn m ys) → length ys ≤ length xs →
    (m : Message) → IsIn m ys → IsIn m xs
has_each xs ys once sub few m h = elim (cases_Bool (has xs m)) [
  | inl is ↦ in-has xs m is
  | inr not ↦
      let out : IsIn m xs → ⊥ = λ i. Lists.contrary (has xs m) (has-in xs m i) not in
      let longer = no_longer (m ∷ xs) ys (out, once) (λ x i. elim i [ inl e ↦ rw e h | inr j ↦ sub x j ]) in
      absurd (omega arith)
]

-- the same of the messages of p

module _ (p : ℕ) where
  abbrev own : List Message → List Message
  own list = filter (λ m. m.origin == p) list

  own-in : (m : Message) (list : List Message) → IsIn m list → m.origin ≡ p → IsIn m (own list)
  own-in m list h its = Lists.IsIn-filter (λ m. m.origin == p) m list (grind (arith, nat_tests)) h

  own-from : (m : Message) (list : List Message) → IsIn m (own list) → IsIn m list × (m.origin ≡ p)
  own-from m list h =
      let passes = Lists.IsIn-filter_passes (λ m. m.origin == p) m list h in
      (Lists.IsIn-filter_from (λ m. m.origin == p) m list h, grind (arith, nat_tests))

  own-once : (list : List Message) → IsWithoutRepeats list → IsWithoutRepeats (own list)
  own-once list once = Lists.IsWithoutRepeats-filter (λ m. m.origin == p) list once

  module _ (xs ys : List Message) (once : IsWithoutRepeats xs) (sub : (m : Message) → IsIn m xs → IsIn m ys) where
    inside : (m : Message) → IsIn m (own xs) → IsIn m (own ys)
    inside m h = let f = own-from m xs h in own-in m ys (sub m f.0) f.1

    pub each-own : submissions xs p ≡ submissions ys p → (m : Message) → IsIn m ys → m.origin ≡ p → IsIn m xs
    unfolding submissions
    each-own e m h its = (own-from m xs (has_each (own xs) (own ys) (own-once xs once) inside (omega arith) m (own-in m ys h its))).0

    pub same-own : IsWithoutRepeats ys → ((m : Message) → IsIn m ys → m.origin ≡ p → IsIn m xs) → submissions xs p ≡ submissions ys p
    unfolding submissions
    same-own other each =
        let a = no_longer (own xs) (own ys) (own-once xs once) inside in
        let b = no_longer (own ys) (own xs) (own-once ys other)
        (λ m h. let f = own-from m ys h in own-in m xs (each m f.0 f.1) f.1) in
        omega arith
