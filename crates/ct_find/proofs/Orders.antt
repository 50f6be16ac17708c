-- Values in order.
use Rattle.std.proofs.Common.{◌≡◌, ◌∙◌, ℕ, List, ap}
use Rattle.ct_find.specs.declared.spread.Spread.{Spread}
use Rattle.ct_find.specs.Spreads.{spread_at, value_at}

abbrev spread_with : ℕ → ℕ → ℕ → ℕ → ℕ → Spread
spread_with a b c d e = record { least = a; lower = b; median = c; upper = d; greatest = e }

-- the five values that are read are the spread
pub spread_is : (a b c d e : ℕ) (ordered : List ℕ) → a ≡ value_at ordered 0 → b ≡ value_at ordered 1 → c ≡ value_at ordered 2 →
    d ≡ value_at ordered 3 → e ≡ value_at ordered 4 →
    spread_with a b c d e ≡ spread_at ordered
spread_is a b c d e ordered p q r s t =
    ap (λ n. spread_with n b c d e) p
    ∙ (ap (λ n. spread_with (value_at ordered 0) n c d e) q
    ∙ (ap (λ n. spread_with (value_at ordered 0) (value_at ordered 1) n d e) r
    ∙ (ap (λ n. spread_with (value_at ordered 0) (value_at ordered 1) (value_at ordered 2) n e) s
    ∙ ap (λ n. spread_with (value_at ordered 0) (value_at ordered 1) (value_at ordered 2) (value_at ordered 3) n) t)))
