-- Two cases that are alike wherever they come up.
use Rattle.std.proofs.Common.{◌≡◌, ◌≤◌, ◌<◌, ℕ, Bool, true, false, inl, inr, subst}
use Rattle.std.proofs.Math.Nat.{eq-or-lt_of_le}
use Rattle.std.specs.Prelude.{if◌then◌else◌}

-- what is so of both is so of either
pub if_either : {A : Type 0} (P : A → Type 0) (b : Bool) (x y : A) → P x → P y → P (if b then x else y)
if_either P true x y h k = h
if_either P false x y h k = k

-- where the first one fails, and the later ones, all do
pub fails_from : (test : ℕ → Bool) (P : ℕ → Type 0) (first : ℕ) → test first ≡ false →
    ((n : ℕ) → first < n → P n → test n ≡ false) → (n : ℕ) → first ≤ n → P n → test n ≡ false
fails_from test P first here later n low so = elim (eq-or-lt_of_le low) [
  | inl same ↦ subst (λ k. test k ≡ false) same here
  | inr more ↦ later n more so
]
