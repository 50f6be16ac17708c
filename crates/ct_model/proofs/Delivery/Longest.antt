-- The longest of some lists of batches, and the batches of the least member whose list is longest.
use Rattle.std.proofs.Common.{◌≡◌, ℕ, zero, suc, ◌-◌, ◌≤◌, ◌<◌, List, [], ◌∷◌, length, map, refl, ap, ◌∙◌, arith, ◌⊎◌, inl, inr, sym}
use Rattle.std.proofs.Common.{append-nil, length-append}
use Rattle.std.specs.Prelude.{nat_lt, if◌then◌else◌, slice_index_or}
use Rattle.std.proofs.lemmas.Bool.{cases_eq}
use Rattle.std.proofs.lemmas.Bool.Decides.{nat_tests}
use Rattle.std.proofs.lemmas.List.{nil_from_length}
use Rattle.ct_names.specs.Membership.{IsIn}
use Rattle.ct_model.specs.Setting.{Setting}
use Rattle.ct_model.specs.State.{State, Member, member, new_member}
use Rattle.ct_names.specs.Batch.{Batch}
use Rattle.ct_model.specs.Next.{Outcome, after}
use Rattle.ct_model.specs.Cause.{order, longest}
use Rattle.ct_model.proofs.Record.Frame.{after-size, member-same, member-other, at_place}
use Rattle.ct_names.specs.Prefix.{IsPrefix}

-- where one of two lists begins the other, the shorter one does
prefix-shorter : {A : Type 0} (xs ys : List A) → IsPrefix xs ys ⊎ IsPrefix ys xs → length xs ≤ length ys → IsPrefix xs ys
prefix-shorter xs ys (inl a) le = a
prefix-shorter xs ys (inr ([], e)) le = ([], append-nil xs ∙ sym e ∙ append-nil ys)
prefix-shorter xs ys (inr (z ∷ rest, e)) le = absurd (grind (arith, length-append ys (z ∷ rest)))

-- of each two of the lists one begins the other
abbrev pub InOneOrder : List (List Batch) → Type 0
InOneOrder lists = (xs ys : List Batch) → IsIn xs lists → IsIn ys lists → IsPrefix xs ys ⊎ IsPrefix ys xs

-- the longest is one of the lists
pub longest-in : (best : List Batch) (lists : List (List Batch)) → IsIn (longest best lists) (best ∷ lists)
longest-in best [] = inl refl
longest-in best (l ∷ rest) = grind (arith, longest-in l rest, longest-in best rest)

-- and none is longer
pub longest-most : (best : List Batch) (lists : List (List Batch)) (xs : List Batch) → IsIn xs (best ∷ lists) →
    length xs ≤ length (longest best lists)
longest-most best [] xs h = grind arith
longest-most best (l ∷ rest) xs h = grind (arith, nat_tests, longest-most l rest, longest-most best rest)

pub longest-prefix : (best : List Batch) (lists : List (List Batch)) → InOneOrder (best ∷ lists) → (xs : List Batch) →
    IsIn xs (best ∷ lists) → IsPrefix xs (longest best lists)
longest-prefix best lists h xs is =
    prefix-shorter xs (longest best lists) (h xs (longest best lists) is (longest-in best lists)) (longest-most best lists xs is)

-- the batches of each member
abbrev pub lists_of : State → List (List Batch)
lists_of g = map (λ m. m.batches) g.members

place-in : (list : List Member) (i : ℕ) → IsIn (slice_index_or list i new_member).batches ([] ∷ map (λ m. m.batches) list)
place-in [] i = inl refl
place-in (m ∷ list) zero = inr (inl refl)
place-in (m ∷ list) (suc i) = elim (place-in list i) [ inl e ↦ inl e | inr h ↦ inr (inr h) ]

-- a member's batches are among these, and who is none has none
pub member-in : (g : State) (p : ℕ) → IsIn (member g p).batches ([] ∷ lists_of g)
unfolding member
member-in g p = place-in g.members (p - 1)

-- these are the batches of a member
pub record IsOfMember (g : State) (batches : List Batch) : Type 0 where
  pub by : ℕ
  pub positive : 1 ≤ by
  pub below : by ≤ length g.members
  pub is : batches ≡ (member g by).batches

in-place : (list : List Member) (batches : List Batch) → IsIn batches (map (λ m. m.batches) list) →
    (i : ℕ) × (i < length list) × (batches ≡ (slice_index_or list i new_member).batches)
in-place [] batches h = absurd h
in-place (m ∷ list) batches (inl e) = (0, omega arith, e)
in-place (m ∷ list) batches (inr h) = let f = in-place list batches h in (suc f.0, omega (arith, f.1), f.2)

pub of_member : (g : State) (batches : List Batch) → IsIn batches (lists_of g) → IsOfMember g batches
unfolding member
of_member g batches h =
    let f = in-place g.members batches h in
    let place : suc f.0 - 1 ≡ f.0 = omega arith in
    record { by = suc f.0; positive = omega arith; below = omega (arith, f.1); is = rw place f.2 }

-- no member has more batches than the order
pub order-longest : (g : State) (q : ℕ) → length (member g q).batches ≤ length (order g)
unfolding order
order-longest g q = longest-most [] (lists_of g) (member g q).batches (member-in g q)

-- some member has as many batches as the order
pub order-member : (g : State) → 1 ≤ length g.members → IsOfMember g (order g)
unfolding order
order-member g some = elim (longest-in [] (lists_of g)) [
  | inl none ↦
      let few = order-longest g 1 in
      record {
        by = 1;
        positive = omega arith;
        below = some;
        is = none ∙ sym (nil_from_length (member g 1).batches (grind (arith, none, few)));
      }
  | inr h ↦ of_member g (order g) h
]

-- the order after the actor's batches grew

module _ (s : Setting) (g : State) (p : ℕ) (o : Outcome) (there : p - 1 < length g.members)
    (grows : length (member g p).batches ≤ length o.member.batches) where
  abbrev h : State
  h = after s g p o

  own : (member h p).batches ≡ o.member.batches
  own = ap (λ (m : Member). m.batches) (member-same s g p o there)

  -- a member's batches were the actor's and are those that it has now, or they stayed
  either : (q : ℕ) → (((member g q).batches ≡ (member g p).batches) × ((member h q).batches ≡ o.member.batches))
      ⊎ ((member h q).batches ≡ (member g q).batches)
  either q = elim (cases_eq (q - 1) (p - 1)) [
    | inl same ↦ inl (at_place (λ m. m.batches) g q p same, at_place (λ m. m.batches) h q p same ∙ own)
    | inr differs ↦ inr (ap (λ (m : Member). m.batches) (member-other s g p q o differs))
  ]

  -- whose batches are the order after the step
  last : IsOfMember h (order h)
  last = order-member h (omega (arith, after-size s g p o))

  -- where the actor has more batches than anyone had, they are the order
  pub order-new : length (order g) < length o.member.batches → order (after s g p o) ≡ o.member.batches
  order-new more = grind (arith, last.is, either last.by, own, order-longest h p, order-longest g last.by)

  pub order-same : length o.member.batches ≤ length (order g) → length (order (after s g p o)) ≡ length (order g)
  order-same few =
      let first : IsOfMember g (order g) = order-member g (omega arith) in
      grind (arith, last.is, either last.by, order-longest g last.by, first.is, either first.by, order-longest h first.by)

  -- its length is the larger of that before and that of the actor's batches
  pub order-grown : length (order (after s g p o)) ≡ (if nat_lt (length (order g)) (length o.member.batches) then length o.member.batches
      else length (order g))
  order-grown = grind (arith, nat_tests, order-new, order-same)
