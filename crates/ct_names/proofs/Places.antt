-- Where a binary search finds a message in a set, and the place that it names for another.
use Rattle.std.proofs.Common.{◌≡◌, ℕ, zero, suc, ◌+◌, ◌≤◌, ◌<◌, Bool, true, false, cond, not, ◌||◌, List, [], ◌∷◌, ◌++◌, length, get_or}
use Rattle.std.proofs.Common.{take, Ordering, Less, Equal, Greater, Result, Ok, Err, refl, sym, ap, ◌∙◌, subst, inl, inr, arith}
use Rattle.std.specs.List.{AllWithin, HoldsAt, insert}
use Rattle.std.specs.List.Sorted.{IsBinarySearchResult, IsSearchInRange, IsSortedBy, IsNonDecreasingBy}
use Rattle.std.specs.Ordering.{is_lt, ordering_index, ordering_reverse}
use Rattle.std.specs.Result.{MatchResult, is_ok}
use Rattle.std.proofs.lemmas.Bool.{cases_lt, or_left, or_right}
use Rattle.std.proofs.lemmas.Cmp.{nat_list_cmp_total}
use Rattle.std.proofs.lemmas.List.Sorted.{searchable_from_sorted}
use Rattle.std.proofs.lemmas.List.Elements.{filter_more}
use Rattle.ct_names.specs.Message.{Message}
use Rattle.ct_names.specs.Order.{is_before, is_message, key}
use Rattle.ct_names.specs.Value.{has, minus, placed, ordered, IsOrdered}
use Rattle.ct_names.proofs.Lists
use Rattle.ct_names.proofs.Orders.{order, order_total, before-order, message-order, less-before, equal-message, before-not_after}
use Rattle.ct_names.proofs.Sets.{IsRising, rising-set, rising-placed, placed-in, set_of}
use Rattle.ct_names.proofs.Values.{in-has, has-in, placed-from}

rising-step : (xs : List Message) → IsRising xs → (k : ℕ) (d : Message) → suc k < length xs →
    is_before (get_or xs k d) (get_or xs (suc k) d) ≡ true
rising-step (x ∷ y ∷ xs) h zero d low = h.0.0
rising-step (x ∷ y ∷ xs) h (suc k) d low = rising-step (y ∷ xs) h.1 k d (omega arith)
rising-step _ h k d low = absurd (omega arith)

rising-sorted_by : (xs : List Message) → IsRising xs → IsSortedBy (λ a b. is_lt (order a b)) xs
rising-sorted_by xs h k d from low =
    let next : k + 1 ≡ suc k = omega arith in
    let step : is_before (get_or xs k d) (get_or xs (suc k) d) ≡ true = rising-step xs h k d (omega arith) in
    ap (λ n. is_lt (order (get_or xs n d) (get_or xs k d))) next
    ∙ (sym (before-order (get_or xs (suc k) d) (get_or xs k d)) ∙ before-not_after (get_or xs k d) (get_or xs (suc k) d) step)

searchable : (xs : List Message) (m : Message) → IsRising xs → IsNonDecreasingBy (λ y. ordering_index (order y m)) xs
searchable xs m h = searchable_from_sorted nat_list_cmp_total key xs (key m) (rising-sorted_by xs h)

greater-before : (m other : Message) → order other m ≡ Greater → is_before m other ≡ true
greater-before m other h = less-before m other (order_total.antisymm m other ∙ ap ordering_reverse h)

less-not_before : (m other : Message) → order other m ≡ Less → is_before m other ≡ false
less-not_before m other h = before-order m other ∙ ap is_lt (order_total.antisymm m other ∙ ap ordering_reverse h)

-- the message goes where the smaller end and the larger begin
placed-insert : (m : Message) (xs : List Message) (i : ℕ) → i ≤ length xs → AllWithin (λ y. order y m ≡ Less) xs 0 i →
    AllWithin (λ y. order y m ≡ Greater) xs i (length xs) → placed m xs ≡ insert xs i m
placed-insert m [] zero in' below above = refl
placed-insert m [] (suc i) in' below above = absurd (omega arith)
placed-insert m (other ∷ xs) zero in' below above = rw (greater-before m other (above 0 m (omega arith) (omega arith))) refl
placed-insert m (other ∷ xs) (suc i) in' below above =
    let rest : placed m xs ≡ insert xs i m = placed-insert m xs i (omega arith)
    (λ k d low high. below (suc k) d (omega arith) (omega arith))
    (λ k d low high. above (suc k) d (omega arith) (omega arith)) in
    rw (less-not_before m other (below 0 m (omega arith) (omega arith)), rest) refl

has-at : (xs : List Message) (m : Message) (i : ℕ) → i < length xs → HoldsAt (λ y. order y m ≡ Equal) xs i → has xs m ≡ true
has-at [] m i low at = absurd (omega arith)
has-at (x ∷ xs) m zero low at = or_left (is_message x m) (has xs m) (equal-message x m (at m))
has-at (x ∷ xs) m (suc i) low at = or_right (is_message x m) (has xs m) (has-at xs m i (omega arith) (λ d. at d))

has-nowhere : (xs : List Message) (m : Message) → ((k : ℕ) → k < length xs → is_message (get_or xs k m) m ≡ false) → has xs m ≡ false
has-nowhere [] m h = refl
has-nowhere (x ∷ xs) m h =
    ap (λ b. b || has xs m) (h 0 (omega arith)) ∙ has-nowhere xs m (λ k low. h (suc k) (omega arith))

-- what a binary search for the message says
pub record IsPlace (xs : List Message) (m : Message) (i : ℕ) : Type 0 where
  pub absent : has xs m ≡ false
  pub there : placed m xs ≡ insert xs i m

place_of : (xs : List Message) (m : Message) (i : ℕ) → i ≤ length xs → AllWithin (λ y. order y m ≡ Less) xs 0 i →
    AllWithin (λ y. order y m ≡ Greater) xs i (length xs) → IsPlace xs m i
place_of xs m i in' below above = record {
  absent = has-nowhere xs m (λ k low.
      grind (arith, cases_lt k i, message-order (get_or xs k m) m, below k m (omega arith), λ (h : i ≤ k). above k m h low));
  there = placed-insert m xs i in' below above;
}

-- a message that is found is in the set, and one that isn't is absent, and its place is known
pub found : (xs : List Message) (m : Message) (ord : Message → Ordering) → ((y : Message) → ord y ≡ order y m) → IsOrdered xs →
    (r : Result ℕ ℕ) → IsSearchInRange r (length xs) → IsBinarySearchResult ord xs r →
    MatchResult r (λ i. has xs m ≡ true) (λ i. IsPlace xs m i)
found xs m ord same h (Ok i) low at = has-at xs m i low (λ d. sym (same (get_or xs i d)) ∙ at d)
found xs m ord same h (Err i) low at =
    let same_ord : ord ≡ (λ y. order y m) = λ j. λ y. same y j in
    let rising : IsNonDecreasingBy (λ y. ordering_index (ord y)) xs =
    subst (λ f. IsNonDecreasingBy (λ y. ordering_index (f y)) xs) (sym same_ord) (searchable xs m (rising-set xs h)) in
    let parts = at rising in
    place_of xs m i low (λ k d from to. sym (same (get_or xs k d)) ∙ parts.0 k d from to)
    (λ k d from to. sym (same (get_or xs k d)) ∙ parts.1 k d from to)

-- with the message at its place the set is that of the list and the message
pub set-insert : (xs : List Message) (m : Message) (i : ℕ) → IsOrdered xs → IsPlace xs m i → insert xs i m ≡ ordered (xs ++ m ∷ [])
set-insert xs m i h place =
    sym place.there
    ∙ set_of (placed m xs) (xs ++ m ∷ []) (rising-placed m xs (λ k. Lists.contrary (has xs m) (has-in xs m k) place.absent)
    (rising-set xs h))
    (λ x k. elim (placed-from m x xs k) [
      | inl e ↦ Lists.IsIn-append_right x xs (m ∷ []) (inl e)
      | inr j ↦ Lists.IsIn-append_left x xs (m ∷ []) j
    ])
    (λ x k. placed-in m xs x (grind (arith, Lists.IsIn-append_cases x xs (m ∷ []) k)))

-- with a message that it has the set stays
pub set-present : (xs : List Message) (m : Message) → IsOrdered xs → has xs m ≡ true → xs ≡ ordered (xs ++ m ∷ [])
set-present xs m h there =
    set_of xs (xs ++ m ∷ []) (rising-set xs h) (λ x k. Lists.IsIn-append_left x xs (m ∷ []) k)
    (λ x k. grind (arith, Lists.IsIn-append_cases x xs (m ∷ []) k, in-has xs m there))

-- the search is Ok exactly where the message is in the set
pub ok_has : (r : Result ℕ ℕ) (xs : List Message) (m : Message) → MatchResult r (λ i. has xs m ≡ true) (λ i. IsPlace xs m i) →
    is_ok r ≡ has xs m
ok_has (Ok i) xs m h = sym h
ok_has (Err i) xs m h = sym h.absent

-- the next message of the set, which is kept or left out
pub minus-more : (xs list : List Message) (i : ℕ) (m : Message) (b : Bool) → i < length xs → m ≡ get_or xs i m → has list m ≡ b →
    minus (take (i + 1) xs) list ≡ minus (take i xs) list ++ cond b [] (m ∷ [])
minus-more xs list i m b low is there =
    filter_more (λ x. not (has list x)) xs i m low ∙ grind arith
