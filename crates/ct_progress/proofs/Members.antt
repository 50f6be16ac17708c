-- A test of each member of a group.
use Rattle.std.proofs.Common.{◌≡◌, ℕ, zero, suc, ◌+◌, ◌≤◌, ◌<◌, Bool, true, false, refl, sym, inl, inr, arith}
use Rattle.std.specs.List.{list_all}
use Rattle.std.proofs.lemmas.Bool.{cases_eq}
use Rattle.ct_names.specs.Group.{counting, members, IsMember}
use Rattle.ct_names.proofs.Groups.{in-counting}
use Rattle.ct_names.proofs.Lists.{both, contrary, passes-list_all}
use Rattle.ct_model.proofs.Basics.Tests.{not_true}

all_counting : (test : ℕ → Bool) (first more : ℕ) → ((q : ℕ) → first ≤ q → q < first + more → test q ≡ true) →
    list_all test (counting first more) ≡ true
all_counting test first zero each = refl
all_counting test first (suc more) each =
    both (test first) (list_all test (counting (first + 1) more)) (each first (omega arith) (omega arith))
    (all_counting test (first + 1) more (λ q lo hi. each q (omega arith) (omega arith)))

-- all pass it where each does
pub all_from : (test : ℕ → Bool) (n : ℕ) → ((q : ℕ) → IsMember n q → test q ≡ true) → list_all test (members n) ≡ true
unfolding members
all_from test n each = all_counting test 1 n (λ q lo hi. each q (lo, omega arith))

-- each passes it where all do
pub all_at : (test : ℕ → Bool) (n q : ℕ) → list_all test (members n) ≡ true → IsMember n q → test q ≡ true
unfolding members
all_at test n q all is =
    let lo : 1 ≤ q = is.0 in
    let hi : q ≤ n = is.1 in
    passes-list_all test q (counting 1 n) all (in-counting 1 n q lo (omega arith))

-- one more passes it, or fails it
pub all_more : (test : ℕ → Bool) (i : ℕ) → ((q : ℕ) → IsMember i q → test q ≡ true) → true ≡ test (i + 1) →
    (q : ℕ) → IsMember (i + 1) q → test q ≡ true
all_more test i before here q is =
    let lo : 1 ≤ q = is.0 in
    let hi : q ≤ i + 1 = is.1 in
    elim (cases_eq q (i + 1)) [ inl e ↦ rw e (sym here) | inr other ↦ before q (lo, omega arith) ]

pub one_fails : (test : ℕ → Bool) (i n : ℕ) → i < n → false ≡ test (i + 1) → false ≡ list_all test (members n)
one_fails test i n lt fails =
    sym (not_true (list_all test (members n))
    (λ all. contrary (test (i + 1)) (all_at test n (i + 1) all (omega arith, omega arith)) (sym fails)))
