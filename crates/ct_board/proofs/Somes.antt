-- The first values of a list, where all of them are known.
use Rattle.std.proofs.Common.{◌≡◌, ℕ, ◌+◌, ◌<◌, ◌≤◌, zero, suc, List, [], ◌∷◌, ◌++◌, Option, Some, None, All, IsSome, take, length, get_or}
use Rattle.std.proofs.Common.{false, true, refl, sym, ◌∙◌, ap, arith, inl, inr}
use Rattle.std.specs.Prelude.{slice_get}
use Rattle.ct_board.specs.Known.{somes, Knows, Keeps, SameWhereKnown}
use Rattle.ct_names.specs.Prefix.{IsPrefix, OneBegins}

module _ {A : Type 0} where
  none_known : (rest : List (Option A)) → All IsSome (None ∷ rest) → ⊥
  none_known rest known = let e : false ≡ true = known 0 None (omega arith) in cc

  rest_known : (x : Option A) (rest : List (Option A)) → All IsSome (x ∷ rest) → All IsSome rest
  rest_known x rest known k d below = known (suc k) d (omega arith)

  pub more_known : (x : A) (rest : List (Option A)) → All IsSome rest → All IsSome (Some x ∷ rest)
  more_known x rest known zero d below = refl
  more_known x rest known (suc k) d below = known k d (omega arith)

  -- there are as many as were taken
  pub length-somes : (n : ℕ) (xs : List (Option A)) → All IsSome (take n xs) → n ≤ length xs → length (somes (take n xs)) ≡ n
  length-somes zero xs known within = refl
  length-somes (suc n) [] known within = absurd (omega arith)
  length-somes (suc n) (None ∷ xs) known within = absurd (none_known (take n xs) known)
  length-somes (suc n) (Some x ∷ xs) known within = ap suc (length-somes n xs (rest_known (Some x) (take n xs) known) (omega arith))

  -- the k-th of them is what is known at k
  pub slice_get-somes : (n k : ℕ) (xs : List (Option A)) → All IsSome (take n xs) → n ≤ length xs → k < n →
      slice_get (somes (take n xs)) k ≡ get_or xs k None
  slice_get-somes zero k xs known within below = absurd (omega arith)
  slice_get-somes (suc n) k [] known within below = absurd (omega arith)
  slice_get-somes (suc n) k (None ∷ xs) known within below = absurd (none_known (take n xs) known)
  slice_get-somes (suc n) zero (Some x ∷ xs) known within below = refl
  slice_get-somes (suc n) (suc k) (Some x ∷ xs) known within below =
      slice_get-somes n k xs (rest_known (Some x) (take n xs) known) (omega arith) (omega arith)

  -- the first n are known in both, and are the same
  pub record AreKept (n : ℕ) (xs ys : List (Option A)) : Type 0 where
    pub known : All IsSome (take n ys)
    pub same : somes (take n ys) ≡ somes (take n xs)

  pub somes_kept : (n : ℕ) (xs ys : List (Option A)) → All IsSome (take n xs) → n ≤ length xs → Keeps xs ys → AreKept n xs ys
  somes_kept zero xs ys known within keeps = record { known = known; same = refl }
  somes_kept (suc n) [] ys known within keeps = absurd (omega arith)
  somes_kept (suc n) (None ∷ xs) ys known within keeps = absurd (none_known (take n xs) known)
  somes_kept (suc n) (Some x ∷ xs) (Some y ∷ ys) known within keeps =
      let e : Some y ≡ Some x = keeps 0 x refl in
      let more = somes_kept n xs ys (rest_known (Some x) (take n xs) known) (omega arith) (λ k z h. keeps (suc k) z h) in
      record { known = more_known y (take n ys) more.known; same = grind (arith, more.same) }
  somes_kept (suc n) (Some x ∷ xs) _ known within keeps = let e = keeps 0 x refl in cc

  -- the first m are known: the first n, and then x
  pub record AreAndNext (n m : ℕ) (xs : List (Option A)) (x : A) : Type 0 where
    pub known : All IsSome (take m xs)
    pub appended : somes (take m xs) ≡ somes (take n xs) ++ x ∷ []

  pub somes_next : (n : ℕ) (xs : List (Option A)) (x : A) → All IsSome (take n xs) → n < length xs → Knows xs n x →
      AreAndNext n (n + 1) xs x
  somes_next n [] x known within knows = absurd (omega arith)
  somes_next zero (None ∷ xs) x known within knows = let e : None ≡ Some x = knows in cc
  somes_next zero (Some y ∷ xs) x known within knows = record { known = more_known y [] known; appended = grind arith }
  somes_next (suc n) (None ∷ xs) x known within knows = absurd (none_known (take n xs) known)
  somes_next (suc n) (Some y ∷ xs) x known within knows =
      let more = somes_next n xs x (rest_known (Some y) (take n xs) known) (omega arith) knows in
      let one : suc n + 1 ≡ suc (n + 1) = omega arith in
      rw one (record { known = more_known y (take (n + 1) xs) more.known; appended = rw more.appended refl })

  -- where two lists agree, of the first values of each one begins the other
  pub one_begins : (m n : ℕ) (xs ys : List (Option A)) → All IsSome (take m xs) → m ≤ length xs → All IsSome (take n ys) → n ≤ length ys →
      SameWhereKnown xs ys → OneBegins (somes (take m xs)) (somes (take n ys))
  one_begins zero n xs ys known within known_y within_y same = inl (somes (take n ys), refl)
  one_begins (suc m) zero xs ys known within known_y within_y same = inr (somes (take (suc m) xs), refl)
  one_begins (suc m) (suc n) [] ys known within known_y within_y same = absurd (omega arith)
  one_begins (suc m) (suc n) (None ∷ xs) ys known within known_y within_y same = absurd (none_known (take m xs) known)
  one_begins (suc m) (suc n) (Some x ∷ xs) [] known within known_y within_y same = absurd (omega arith)
  one_begins (suc m) (suc n) (Some x ∷ xs) (None ∷ ys) known within known_y within_y same = absurd (none_known (take n ys) known_y)
  one_begins (suc m) (suc n) (Some x ∷ xs) (Some y ∷ ys) known within known_y within_y same =
      let e : x ≡ y = same 0 x y refl refl in
      elim (one_begins m n xs ys (rest_known (Some x) (take m xs) known) (omega arith) (rest_known (Some y) (take n ys) known_y)
      (omega arith) (λ k a b. same (suc k) a b)) [
        | inl h ↦ inl (h.0, rw (e, h.1) refl)
        | inr h ↦ inr (h.0, rw (e, h.1) refl)
      ]

  -- a list agrees with itself
  pub same_as_itself : (xs : List (Option A)) → SameWhereKnown xs xs
  same_as_itself xs k x y known known_y = let e : Some x ≡ Some y = sym known ∙ known_y in cc

  -- fewer of them begin more
  pub somes_begin : (m n : ℕ) (xs : List (Option A)) → m ≤ n → All IsSome (take n xs) → n ≤ length xs →
      IsPrefix (somes (take m xs)) (somes (take n xs))
  somes_begin zero n xs less known within = (somes (take n xs), refl)
  somes_begin (suc m) zero xs less known within = absurd (omega arith)
  somes_begin (suc m) (suc n) [] less known within = absurd (omega arith)
  somes_begin (suc m) (suc n) (None ∷ xs) less known within = absurd (none_known (take n xs) known)
  somes_begin (suc m) (suc n) (Some x ∷ xs) less known within =
      let h = somes_begin m n xs (omega arith) (rest_known (Some x) (take n xs) known) (omega arith) in
      (h.0, rw h.1 refl)

  -- the first values are those of the list
  pub record AreFirst (list : List A) (xs : List (Option A)) : Type 0 where
    pub within : length list ≤ length xs
    pub known : All IsSome (take (length list) xs)
    pub same : somes (take (length list) xs) ≡ list

  -- where each place of a list is known, the first values are that list
  pub somes_are : (list : List A) (xs : List (Option A)) → ((k : ℕ) (x : A) → slice_get list k ≡ Some x → Knows xs k x) → AreFirst list xs
  somes_are [] xs each = record { within = omega arith; known = λ k d below. absurd (omega arith); same = refl }
  somes_are (y ∷ list) (Some x ∷ xs) each =
      let e : Some x ≡ Some y = each 0 y refl in
      let more = somes_are list xs (λ k z h. each (suc k) z h) in
      record {
        within = omega (arith, more.within);
        known = more_known x (take (length list) xs) more.known;
        same = grind (arith, more.same);
      }
  somes_are (y ∷ list) _ each = let e = each 0 y refl in cc
