-- Lists in which no two elements are equal by a test.
use Rattle.std.proofs.Common.{◌≡◌, ℕ, Bool, false, ◌||◌, ◌==◌, List, [], ◌∷◌, ◌++◌, refl, ap, ◌∙◌, arith}
use Rattle.std.specs.List.{list_any, AllByRecursion, IsDistinct}
use Rattle.std.proofs.lemmas.Bool.Decides.{nat_tests}

later-apart : {K : Type 0} (R : K → K → Bool) (k : K) (ks : List K) (x : K) (xs : List K) →
    AllByRecursion (λ y. R k y ≡ false) (ks ++ x ∷ xs) → R k x ≡ false
later-apart R k [] x xs apart = apart.0
later-apart R k (y ∷ ks) x xs apart = later-apart R k ks x xs apart.1

-- one that comes later is not among those before it
pub absent_before : {K : Type 0} (R : K → K → Bool) → ((x y : K) → R x y ≡ R y x) → (ks : List K) (x : K) (xs : List K) →
    IsDistinct R (ks ++ x ∷ xs) → list_any (R x) ks ≡ false
unfolding IsDistinct
absent_before R symm [] x xs distinct = refl
absent_before R symm (k ∷ ks) x xs distinct =
    ap (λ b. b || list_any (R x) ks) (symm x k ∙ later-apart R k ks x xs distinct.0) ∙ absent_before R symm ks x xs distinct.1

-- two numbers are equal either way round
pub eq-symm : (m n : ℕ) → (m == n) ≡ (n == m)
eq-symm m n = grind (arith, nat_tests)
