-- Lists of messages that rise. A set is the one rising list of its messages.
use Rattle.std.proofs.Common.{◌≡◌, ℕ, zero, suc, Bool, true, false, cond, not, arith, List, [], ◌∷◌, filter, take, refl, sym, ◌∙◌}
use Rattle.std.proofs.Common.{subst, inl, inr, ◌⊎◌}
use Rattle.std.proofs.lemmas.Bool.{cond_both}
use Rattle.ct_names.specs.Message.{Message}
use Rattle.ct_names.specs.Order.{is_before}
use Rattle.ct_names.specs.Value.{has, minus, first_occurrences, placed, sorted, ordered, IsOrdered}
use Rattle.ct_names.specs.Membership.{IsIn, IsWithoutRepeats}
use Rattle.ct_names.proofs.Lists
use Rattle.ct_names.proofs.Orders.{before-trans, before-other, one_way}
use Rattle.ct_names.proofs.Values.{same_message, is_message-refl, in-has, has-in, first_occurrences-in, IsWithoutRepeats-first_occurrences}
use Rattle.ct_names.proofs.Values.{sorted-from, placed-from, ordered-from}

-- the message is before each of the list
abbrev pub IsBeforeAll : Message → List Message → Type 0
IsBeforeAll m [] = Unit {0}
IsBeforeAll m (x ∷ xs) = (is_before m x ≡ true) × IsBeforeAll m xs

-- each message is before all later ones
abbrev pub IsRising : List Message → Type 0
IsRising [] = Unit {0}
IsRising (m ∷ list) = IsBeforeAll m list × IsRising list

-- two tests of which each passes where the other does
pub same_test : (a b : Bool) → (a ≡ true → b ≡ true) → (b ≡ true → a ≡ true) → a ≡ b
same_test a b h k = grind arith

before_all-weaker : (a b : Message) (list : List Message) → is_before a b ≡ true → IsBeforeAll b list → IsBeforeAll a list
before_all-weaker a b [] h k = tt
before_all-weaker a b (x ∷ list) h k = (before-trans a b x h k.0, before_all-weaker a b list h k.1)

before_all-in : (m : Message) (list : List Message) (x : Message) → IsBeforeAll m list → IsIn x list → is_before m x ≡ true
before_all-in m [] x h i = absurd i
before_all-in m (y ∷ list) x h i = grind (arith, before_all-in m list x)

before_all-from : (m : Message) (list : List Message) → ((x : Message) → IsIn x list → is_before m x ≡ true) → IsBeforeAll m list
before_all-from m [] h = tt
before_all-from m (x ∷ list) h = (h x (inl refl), before_all-from m list (λ y i. h y (inr i)))

-- the message before all is none of them
before_all-out : (m : Message) (list : List Message) → IsBeforeAll m list → IsIn m list → ⊥
before_all-out m list h i = grind (arith, is_message-refl m, before-other m m (before_all-in m list m h i))

before_all-filter : (test : Message → Bool) (m : Message) (list : List Message) → IsBeforeAll m list → IsBeforeAll m (filter test list)
before_all-filter test m list h =
    before_all-from m (filter test list) (λ x i. before_all-in m list x h (Lists.IsIn-filter_from test x list i))

pub rising-filter : (test : Message → Bool) (list : List Message) → IsRising list → IsRising (filter test list)
rising-filter test [] h = tt
rising-filter test (m ∷ list) h =
    let rest : IsRising (filter test list) = rising-filter test list h.1 in
    cond_both (test m) (m ∷ filter test list) (filter test list) IsRising (λ e. (before_all-filter test m list h.0, rest)) (λ e. rest)

pub placed-in : (m : Message) (list : List Message) (x : Message) → (x ≡ m) ⊎ IsIn x list → IsIn x (placed m list)
placed-in m [] x h = h
placed-in m (other ∷ list) x h = grind (arith, placed-in m list x)

pub sorted-in : (list : List Message) (x : Message) → IsIn x list → IsIn x (sorted list)
sorted-in [] x i = i
sorted-in (m ∷ list) x i = grind (arith, placed-in m (sorted list) x, sorted-in list x)

pub ordered-in : (list : List Message) (x : Message) → IsIn x list → IsIn x (ordered list)
unfolding ordered
ordered-in list x i = sorted-in (first_occurrences list) x (first_occurrences-in list x i)

pub has-ordered : (list : List Message) (m : Message) → has (ordered list) m ≡ has list m
has-ordered list m =
    same_test (has (ordered list) m) (has list m) (λ h. has-in list m (ordered-from list m (in-has (ordered list) m h)))
    (λ h. has-in (ordered list) m (ordered-in list m (in-has list m h)))

after-from : (m other : Message) → is_before m other ≡ false → (m ≡ other → ⊥) → is_before other m ≡ true
after-from m other h apart = grind (arith, one_way m other, same_message m other)

pub rising-placed : (m : Message) (list : List Message) → (IsIn m list → ⊥) → IsRising list → IsRising (placed m list)
rising-placed m [] out h = (tt, tt)
rising-placed m (other ∷ list) out h = at (is_before m other) refl (rising-placed m list (λ i. out (inr i)) h.1)
  where
    at : (b : Bool) → is_before m other ≡ b → IsRising (placed m list) → IsRising (cond b (m ∷ other ∷ list) (other ∷ placed m list))
    at true is rest = ((is, before_all-weaker m other list is h.0), h)
    at false is rest =
        let after : is_before other m ≡ true = after-from m other is (λ e. out (inl e)) in
        let all : IsBeforeAll other (placed m list) = before_all-from other (placed m list) (λ x i. elim (placed-from m x list i) [
          | inl e ↦ rw e after
          | inr k ↦ before_all-in other list x h.0 k
        ]) in
        (all, rest)

pub rising-sorted : (list : List Message) → IsWithoutRepeats list → IsRising (sorted list)
rising-sorted [] h = tt
rising-sorted (m ∷ list) h = rising-placed m (sorted list) (λ i. h.0 (sorted-from list m i)) (rising-sorted list h.1)

pub rising-ordered : (list : List Message) → IsRising (ordered list)
unfolding ordered
rising-ordered list = rising-sorted (first_occurrences list) (IsWithoutRepeats-first_occurrences list)

-- the first messages of two sets are one
same_first : (x y : Message) (xs ys : List Message) → IsRising (x ∷ xs) → IsRising (y ∷ ys) → IsIn x (y ∷ ys) → IsIn y (x ∷ xs) → x ≡ y
same_first x y xs ys h k i j = grind (
  arith,
  before_all-in y ys x k.0,
  before_all-in x xs y h.0,
  before-trans x y x,
  before-other x x,
  is_message-refl x,
)

in_rest : (x y m : Message) (xs ys : List Message) → IsBeforeAll x xs → x ≡ y → IsIn m xs → IsIn m (y ∷ ys) → IsIn m ys
in_rest x y m xs ys h same i j = grind (arith, before_all-out x xs h)

-- rising lists with the same messages are one list
pub same_rising : (xs ys : List Message) → IsRising xs → IsRising ys → ((m : Message) → IsIn m xs → IsIn m ys) →
    ((m : Message) → IsIn m ys → IsIn m xs) → xs ≡ ys
same_rising [] [] h k there back = refl
same_rising [] (y ∷ ys) h k there back = absurd (back y (inl refl))
same_rising (x ∷ xs) [] h k there back = absurd (there x (inl refl))
same_rising (x ∷ xs) (y ∷ ys) h k there back =
    let first : x ≡ y = same_first x y xs ys h k (there x (inl refl)) (back y (inl refl)) in
    let rest : xs ≡ ys = same_rising xs ys h.1 k.1
    (λ m i. in_rest x y m xs ys h.0 first i (there m (inr i)))
    (λ m i. in_rest y x m ys xs k.0 (sym first) i (back m (inr i))) in
    cc

pub rising-set : (list : List Message) → IsOrdered list → IsRising list
rising-set list h = subst IsRising h (rising-ordered list)

-- a rising list is the set of a list that has the same messages
pub set_of : (xs list : List Message) → IsRising xs → ((m : Message) → IsIn m xs → IsIn m list) →
    ((m : Message) → IsIn m list → IsIn m xs) → xs ≡ ordered list
set_of xs list h there back =
    same_rising xs (ordered list) h (rising-ordered list) (λ m i. ordered-in list m (there m i)) (λ m i. back m (ordered-from list m i))

pub set-rising : (list : List Message) → IsRising list → IsOrdered list
set-rising list h = sym (set_of list list h (λ m i. i) (λ m i. i))

-- sets with the same messages are one list
pub same_sets : (xs ys : List Message) → IsOrdered xs → IsOrdered ys → ((m : Message) → has xs m ≡ has ys m) → xs ≡ ys
same_sets xs ys h k same =
    same_rising xs ys (rising-set xs h) (rising-set ys k)
    (λ m i. in-has ys m (sym (same m) ∙ has-in xs m i))
    (λ m i. in-has xs m (same m ∙ has-in ys m i))

-- lists with the same messages have the same set
pub same_ordered : (xs ys : List Message) → ((m : Message) → has xs m ≡ has ys m) → ordered xs ≡ ordered ys
same_ordered xs ys same =
    same_sets (ordered xs) (ordered ys) (set-rising (ordered xs) (rising-ordered xs)) (set-rising (ordered ys) (rising-ordered ys))
    (λ m. has-ordered xs m ∙ (same m ∙ sym (has-ordered ys m)))

pub set-ordered : (list : List Message) → IsOrdered (ordered list)
set-ordered list = set-rising (ordered list) (rising-ordered list)

pub set-minus : (list other : List Message) → IsOrdered list → IsOrdered (minus list other)
set-minus list other h = set-rising (minus list other) (rising-filter (λ m. not (has other m)) list (rising-set list h))

rising-take : (count : ℕ) (list : List Message) → IsRising list → IsRising (take count list)
rising-take zero list h = tt
rising-take (suc count) [] h = tt
rising-take (suc count) (m ∷ list) h =
    (before_all-from m (take count list) (λ x i. before_all-in m list x h.0 (in-take count list x i)), rising-take count list h.1)
  where
    in-take : (count : ℕ) (list : List Message) (x : Message) → IsIn x (take count list) → IsIn x list
    in-take zero list x i = absurd i
    in-take (suc count) [] x i = absurd i
    in-take (suc count) (y ∷ list) x i = grind (arith, in-take count list x)

pub set-take : (count : ℕ) (list : List Message) → IsOrdered list → IsOrdered (take count list)
set-take count list h = set-rising (take count list) (rising-take count list (rising-set list h))

pub set-nil : IsOrdered []
set-nil = set-rising [] tt
