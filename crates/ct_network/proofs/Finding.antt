-- Where a serial is found in a line.
use Rattle.std.proofs.Common.{◌≡◌, ◌≢◌, ℕ, suc, ◌+◌, ◌-◌, ◌<◌, ◌≤◌, Bool, true, false, List, [], ◌∷◌, ◌++◌, length, get_or, take, drop}
use Rattle.std.proofs.Common.{remove, leb, ltb, refl, ap, sym}
use Rattle.std.proofs.Common.{◌∙◌, subst, arith, inl, inr, Some, None, true≢false}
use Rattle.std.specs.Prelude.{◌==◌, All, Option, nat_lt, option_map}
use Rattle.std.specs.List.{position, position_or_len}
use Rattle.std.specs.List.Sorted.{IsNonDecreasingBy, IsPartitionPoint}
use Rattle.std.proofs.lemmas.Bool.{cases_lt, eqb-true, ltb-true, leb-false}
use Rattle.std.proofs.lemmas.Bool.Decides.{nat_tests}
use Rattle.std.proofs.lemmas.List.{get_or-drop, get_or-take, get_or_default, length-drop, length-take-le, take_more, take-take, drop_at}
use Rattle.std.proofs.lemmas.List.{drop-drop, drop-append-le, drop-take}
use Rattle.std.proofs.lemmas.List.Quantifiers.{position-Some}
use Rattle.std.proofs.lemmas.List.Sums.{position_or_len_is, fails_before_first}
use borrow.Rule.Slice.PartMut.{put_mid, mid_of}
use Rattle.ct_model.proofs.Basics.Tests.{number_other, number_same}
use Rattle.ct_network.specs.Network.{place_of}
use Rattle.ct_network.specs.Moves.{key_of, IsRising}

-- it passes at the place, and nowhere before
first_at : (p : ℕ → Bool) (xs : List ℕ) (i : ℕ) → i < length xs → p (get_or xs i 0) ≡ true →
    ((k : ℕ) → k < i → p (get_or xs k 0) ≡ false) → position p xs ≡ Some i
first_at p xs i within here before =
    let is : position_or_len p xs ≡ i = position_or_len_is p xs i 0 (omega arith) before (λ h. here) in
    let inside : nat_lt (position_or_len p xs) (length xs) ≡ true = grind (arith, nat_tests) in
    rw (inside, is) refl

-- it passes nowhere
nowhere_at : (p : ℕ → Bool) (xs : List ℕ) → ((k : ℕ) → k < length xs → p (get_or xs k 0) ≡ false) → position p xs ≡ None
nowhere_at p xs all =
    let is : position_or_len p xs ≡ length xs = position_or_len_is p xs (length xs) 0 (omega arith) all (λ h. absurd (omega arith)) in
    let outside : nat_lt (position_or_len p xs) (length xs) ≡ false = grind (arith, nat_tests) in
    rw outside refl

fails_all : (p : ℕ → Bool) (xs : List ℕ) → position p xs ≡ None → (k : ℕ) → k < length xs → p (get_or xs k 0) ≡ false
fails_all p xs none k h =
    let inside : nat_lt (position_or_len p xs) (length xs) ≡ false = grind arith in
    let first : length xs ≤ position_or_len p xs = grind (arith, nat_tests) in
    fails_before_first p xs k 0 (omega arith)

-- a part of a line behind others that are not the serial
module _ (k : ℕ) (line : List ℕ) (from until : ℕ) (inside : from ≤ length line)
    (front : (i : ℕ) → i < from → (get_or line i 0 == k) ≡ false) (short : until ≤ length (drop from line)) where
  same_in : (i : ℕ) → i < until → get_or (take until (drop from line)) i 0 ≡ get_or line (from + i) 0
  same_in i h = get_or-take until (drop from line) i 0 h ∙ get_or-drop from line i 0

  before : (i : ℕ) → ((j : ℕ) → j < i → (get_or (take until (drop from line)) j 0 == k) ≡ false) → i ≤ until →
      (j : ℕ) → j < from + i → (get_or line j 0 == k) ≡ false
  before i others le j h = elim (cases_lt j from) [
    | inl low ↦ front j low
    | inr high ↦
        let at : from + (j - from) ≡ j = omega arith in
        subst (λ n. (get_or line n 0 == k) ≡ false) at
        (ap (λ x. x == k) (sym (same_in (j - from) (omega arith))) ∙ others (j - from) (omega arith))
  ]

  -- its place there is its place in the line
  pub found : (i : ℕ) → place_of k (take until (drop from line)) ≡ Some i → place_of k line ≡ Some (from + i)
  found i is =
      let at = position-Some (λ x. x == k) (take until (drop from line)) i 0 is in
      let size : length (take until (drop from line)) ≡ until = length-take-le until (drop from line) short in
      let low : i < until = omega (arith, at.0) in
      first_at (λ x. x == k) line (from + i) (omega (arith, length-drop from line))
      (ap (λ x. x == k) (sym (same_in i low)) ∙ at.1) (before i at.2 (omega arith))

  -- and it is nowhere, if it isn't there nor behind
  pub missing : ((i : ℕ) → until ≤ i → i < length (drop from line) → (get_or (drop from line) i 0 == k) ≡ false) →
      place_of k (take until (drop from line)) ≡ None → place_of k line ≡ None
  missing behind none =
      let size : length (take until (drop from line)) ≡ until = length-take-le until (drop from line) short in
      let others = fails_all (λ x. x == k) (take until (drop from line)) none in
      nowhere_at (λ x. x == k) line
      (λ j h. elim (cases_lt j (from + until)) [
        | inl low ↦ before until (λ i lt. others i (omega arith)) (omega arith) j low
        | inr high ↦
            let at : from + (j - from) ≡ j = omega arith in
            subst (λ n. (get_or line n 0 == k) ≡ false) at
            (ap (λ x. x == k) (sym (get_or-drop from line (j - from) 0))
            ∙ behind (j - from) (omega arith) (omega (arith, length-drop from line)))
      ])

-- both at once, where keys are lower in front of it and higher behind it
pub parted : (n : ℕ → ℕ) (k t : ℕ) (line : List ℕ) (from until : ℕ) → t ≡ n k → from ≤ length line → until ≤ length (drop from line) →
    IsPartitionPoint (λ x. ltb (n x) t ≡ true) (λ x. ltb (n x) t ≡ false) line from →
    IsPartitionPoint (λ x. leb (n x) t ≡ true) (λ x. leb (n x) t ≡ false) (drop from line) until →
    option_map (λ i. from + i) (place_of k (take until (drop from line))) ≡ place_of k line
parted n k t line from until is inside short low high = go (place_of k (take until (drop from line))) refl
  where
    front : (i : ℕ) → i < from → (get_or line i 0 == k) ≡ false
    front i h = number_other (get_or line i 0) k
        (λ same. let less = ltb-true (n (get_or line i 0)) t (low.0 i 0 (omega arith) h) in let e = ap n same in absurd (omega arith))

    behind : (i : ℕ) → until ≤ i → i < length (drop from line) → (get_or (drop from line) i 0 == k) ≡ false
    behind i h within = number_other (get_or (drop from line) i 0) k
        (λ same.
        let more = leb-false (n (get_or (drop from line) i 0)) t (high.1 i 0 h within) in
        let e = ap n same in absurd (omega arith))

    go : (o : Option ℕ) → place_of k (take until (drop from line)) ≡ o → option_map (λ i. from + i) o ≡ place_of k line
    go None e = sym (missing k line from until inside front short behind e)
    go (Some i) e = sym (found k line from until inside front short i e)

-- a place near the front is one of the line
pub near_found : (k : ℕ) (line : List ℕ) (n i : ℕ) → n ≤ length line → place_of k (take n line) ≡ Some i → Some i ≡ place_of k line
near_found k line n i le is =
    let at : i ≡ 0 + i = omega arith in
    ap (λ j. Some j) at ∙ sym (found k line 0 n (omega arith) (λ j h. absurd (omega arith)) le i is)

-- so is one near the end, where no serial stands twice
pub end_found : (keys : List ℕ) (base k : ℕ) (line : List ℕ) (from i : ℕ) → IsRising keys base line → from ≤ length line →
    place_of k (take (length line - from) (drop from line)) ≡ Some i → place_of k line ≡ Some (from + i)
end_found keys base k line from i rising inside is = found k line from (length line - from) inside front short i is
  where
    short : length line - from ≤ length (drop from line)
    short = omega (arith, length-drop from line)

    front : (j : ℕ) → j < from → (get_or line j 0 == k) ≡ false
    front j h =
        let at = position-Some (λ x. x == k) (take (length line - from) (drop from line)) i 0 is in
        let low : i < length line - from = omega (arith, at.0, length-take-le (length line - from) (drop from line) short) in
        let here : get_or line (from + i) 0 ≡ k = sym (get_or-take (length line - from) (drop from line) i 0 low ∙ get_or-drop from line i 0)
        ∙ eqb-true (get_or (take (length line - from) (drop from line)) i 0) k at.1 in
        number_other (get_or line j 0) k (λ same. (rising j (from + i) 0 (omega arith) (omega arith)).0 (same ∙ sym here))

-- where it has no place it is nowhere
pub absent : (k : ℕ) (line : List ℕ) → place_of k line ≡ None → All (λ x. x ≢ k) line
absent k line none i d within same =
    let e : get_or line i 0 ≡ k = get_or_default line i 0 d within ∙ same in
    true≢false (sym (number_same (get_or line i 0) k e) ∙ fails_all (λ x. x == k) line none i within)

-- keys don't fall along a line
pub not_falling : (keys : List ℕ) (base : ℕ) (line : List ℕ) → IsRising keys base line → IsNonDecreasingBy (key_of keys base) line
not_falling keys base line h i j d le within = elim (cases_lt i j) [
  | inl less ↦ (h i j d less within).1
  | inr more ↦
      let same : i ≡ j = omega arith in
      let e : key_of keys base (get_or line i d) ≡ key_of keys base (get_or line j d) = ap (λ n. key_of keys base (get_or line n d)) same in
      omega arith
]

-- what stands behind the place a, once its i-th was turned to its front
pub turned : (xs : List ℕ) (a i k : ℕ) (ys : List ℕ) → a + i < length xs → k ≡ i + 1 →
    ys ≡ drop (length (mid_of a k xs) - 1) (mid_of a k xs) ++ take (length (mid_of a k xs) - 1) (mid_of a k xs) →
    drop (a + 1) (put_mid a k xs ys) ≡ remove (drop a xs) i
turned xs a i k ys h size is =
    let rest = drop a xs in
    let next : k ≡ suc i = omega (arith, size) in
    let within : i + 1 ≤ length rest = omega (arith, length-drop a xs) in
    let all : length (mid_of a k xs) ≡ i + 1 = ap (λ n. length (take n rest)) size ∙ length-take-le (i + 1) rest within in
    let back : length (mid_of a k xs) - 1 ≡ i = omega arith in
    let part : mid_of a k xs ≡ take (i + 1) rest = ap (λ n. take n rest) size in
    let last : drop i (take (i + 1) rest) ≡ get_or rest i 0 ∷ [] =
    ap (drop i) (take_more rest i 0 (omega arith)) ∙ drop_at (take i rest) (get_or rest i 0 ∷ []) i (length-take-le i rest (omega arith)) in
    let new : ys ≡ get_or rest i 0 ∷ take i rest =
    is ∙ ap (λ n. drop n (mid_of a k xs) ++ take n (mid_of a k xs)) back
    ∙ ap (λ (zs : List ℕ). drop i zs ++ take i zs) part
    ∙ ap (λ zs. zs ++ take i (take (i + 1) rest)) last
    ∙ ap (λ zs. get_or rest i 0 ∷ zs) (take-take i (i + 1) rest (omega arith)) in
    sym (drop-drop 1 a (put_mid a k xs ys))
    ∙ ap (drop 1) (drop_at (take a xs) (ys ++ drop k rest) a (length-take-le a xs (omega arith)))
    ∙ ap (λ zs. drop 1 (zs ++ drop k rest)) new
    ∙ ap (λ n. take i rest ++ drop n rest) next

-- a part of a list without one of it
pub drop-remove : (xs : List ℕ) (a i : ℕ) → a + i < length xs → drop a (remove xs (a + i)) ≡ remove (drop a xs) i
drop-remove xs a i h =
    let next : suc (a + i) ≡ a + suc i = omega arith in
    let short : a ≤ length (take (a + i) xs) = omega (arith, length-take-le (a + i) xs (omega arith)) in
    drop-append-le a (take (a + i) xs) (drop (suc (a + i)) xs) short
    ∙ ap (λ zs. zs ++ drop (suc (a + i)) xs) (drop-take a i xs)
    ∙ ap (λ n. take i (drop a xs) ++ drop n xs) next
    ∙ ap (λ zs. take i (drop a xs) ++ zs) (sym (drop-drop (suc i) a xs))
