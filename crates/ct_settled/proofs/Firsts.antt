-- The members of a group, one more at a time: the first for whom something is there, whether all pass a test, and how many do.
use Rattle.std.proofs.Common.{◌≡◌, ℕ, zero, suc, ◌+◌, ◌-◌, ◌<◌, List, [], ◌∷◌, ◌++◌, Option, Some, None, refl, ap, ◌∙◌, arith}
use Rattle.std.proofs.Common.{◌≤◌, Bool, true, false, filter, length, length-append}
use Rattle.std.specs.List.{list_all}
use Rattle.std.specs.Option.{option_or}
use Rattle.std.proofs.lemmas.Bool.{false_from_ne_true}
use Rattle.std.proofs.lemmas.List.Elements.{filter-append}
use Rattle.std.proofs.lemmas.List.Folds.{list_all-append}
use Rattle.ct_names.specs.Group.{IsMember, members}
use Rattle.ct_names.specs.Membership.{IsIn}
use Rattle.ct_names.proofs.Groups.{in-counting}
use Rattle.ct_names.proofs.Lists.{passes-list_all}
use Rattle.ct_play.proofs.Counting.{members_more}
use Rattle.ct_settled.specs.Hindrance.{first_of}

first_of-append : {A B : Type 0} (f : A → Option B) (xs ys : List A) → first_of f (xs ++ ys) ≡ option_or (first_of f xs) (first_of f ys)
first_of-append f [] ys = refl
first_of-append f (x ∷ xs) ys = grind (arith, first_of-append f xs ys)

one_more : {B : Type 0} (f : ℕ → Option B) (i : ℕ) → first_of f (members (i + 1))
    ≡ option_or (first_of f (members i)) (option_or (f (i + 1)) None)
one_more f i = ap (first_of f) (members_more i) ∙ first_of-append f (members i) ((i + 1) ∷ [])

-- the members of a group are in its list
pub in_members : (n p : ℕ) → IsMember n p → IsIn p (members n)
unfolding members
in_members n p is =
    let lo : 1 ≤ p = is.0 in
    let hi : p ≤ n = is.1 in
    in-counting 1 n p lo (omega arith)

-- none up to here
pub first_passed : {B : Type 0} (f : ℕ → Option B) (i : ℕ) → first_of f (members i) ≡ None → f (i + 1) ≡ None →
    first_of f (members (i + 1)) ≡ None
first_passed f i before here = grind (arith, one_more f i)

found_among : {B : Type 0} (f : ℕ → Option B) (i d n : ℕ) (b : B) → n ≡ i + 1 + d → first_of f (members i) ≡ None → f (i + 1) ≡ Some b →
    first_of f (members n) ≡ Some b
found_among f i zero n b e before here =
    let same : n ≡ i + 1 = omega arith in
    ap (λ k. first_of f (members k)) same ∙ grind (arith, one_more f i)
found_among f i (suc d) zero b e before here = absurd (omega arith)
found_among f i (suc d) (suc m) b e before here =
    let same : suc m ≡ m + 1 = omega arith in
    let rest = found_among f i d m b (omega arith) before here in
    ap (λ k. first_of f (members k)) same ∙ grind (arith, one_more f m, rest)

-- the first one is here
pub first_found : {B : Type 0} (f : ℕ → Option B) (i n : ℕ) (b : B) → i < n → first_of f (members i) ≡ None → f (i + 1) ≡ Some b →
    first_of f (members n) ≡ Some b
first_found f i n b lt before here = found_among f i (n - (i + 1)) n b (omega arith) before here

-- what a loop over members needs that looks for the first one
pub ruleset first_steps = (first_passed, first_found)

-- where there is none it isn't there for any
pub first_none : {A B : Type 0} (f : A → Option B) (x : A) (xs : List A) → first_of f xs ≡ None → IsIn x xs → f x ≡ None
first_none f x [] e h = absurd h
first_none f x (y ∷ xs) e h = grind (arith, first_none f x xs)

-- ---- tests

-- all up to here
pub all_passed : (test : ℕ → Bool) (i : ℕ) → list_all test (members i) ≡ true → test (i + 1) ≡ true → list_all test (members (i + 1)) ≡ true
all_passed test i before here = ap (list_all test) (members_more i) ∙ (list_all-append test (members i) ((i + 1) ∷ []) ∙ grind arith)

pub all_from : (test : ℕ → Bool) (n : ℕ) → ((q : ℕ) → IsMember n q → test q ≡ true) → list_all test (members n) ≡ true
unfolding members
all_from test zero each = refl
all_from test (suc n) each =
    let next : suc n ≡ n + 1 = omega arith in
    ap (λ k. list_all test (members k)) next
    ∙ all_passed test n (all_from test n (λ q is. each q (is.0, omega (arith, is.1)))) (each (n + 1) (omega arith, omega arith))

pub all_at : (test : ℕ → Bool) (n q : ℕ) → list_all test (members n) ≡ true → IsMember n q → test q ≡ true
all_at test n q all is = passes-list_all test q (members n) all (in_members n q is)

-- one of them doesn't pass
pub not_all : (test : ℕ → Bool) (i n : ℕ) → i < n → test (i + 1) ≡ false → list_all test (members n) ≡ false
not_all test i n lt here =
    false_from_ne_true (list_all test (members n))
    (λ all. let pass = all_at test n (i + 1) all (omega arith, omega arith) in absurd (cc))

-- ---- counts

abbrev pub count : (ℕ → Bool) → ℕ → ℕ
count test i = length (filter test (members i))

one_tested : (test : ℕ → Bool) (i : ℕ) → count test (i + 1) ≡ count test i + length (filter test ((i + 1) ∷ []))
one_tested test i =
    ap (λ xs. length (filter test xs)) (members_more i)
    ∙ (ap length (filter-append test (members i) ((i + 1) ∷ [])) ∙ length-append (filter test (members i)) (filter test ((i + 1) ∷ [])))

pub one_counted : (test : ℕ → Bool) (i : ℕ) → test (i + 1) ≡ true → count test (i + 1) ≡ count test i + 1
one_counted test i here = grind (arith, one_tested test i)

pub none_counted : (test : ℕ → Bool) (i : ℕ) → test (i + 1) ≡ false → count test (i + 1) ≡ count test i
none_counted test i here = grind (arith, one_tested test i)
