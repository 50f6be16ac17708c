-- Where two words stop to be alike.
use Rattle.std.proofs.Common.{◌≡◌, ℕ, ◌<◌, zero, suc, [], ◌∷◌, length, get_or, drop, refl, arith}
use Rattle.std.proofs.lemmas.Bool.Decides.{nat_tests}
use Rattle.ct_grammar.specs.Words.{Word}
use Rattle.ct_grammar.specs.Near.{behind_common}

nothing_else : (word : Word) → behind_common word [] ≡ (word, [])
nothing_else [] = refl
nothing_else (c ∷ cs) = refl

pub alike_no_more : (word name : Word) (i : ℕ) → (i < length word → i < length name → get_or word i 0 ≡ get_or name i 0 → ⊥) →
    behind_common (drop i word) (drop i name) ≡ (drop i word, drop i name)
alike_no_more [] name zero h = refl
alike_no_more [] name (suc i) h = refl
alike_no_more (c ∷ cs) [] zero h = refl
alike_no_more (c ∷ cs) [] (suc i) h = nothing_else (drop i cs)
alike_no_more (c ∷ cs) (d ∷ ds) zero h = grind (arith, nat_tests, h (omega arith) (omega arith))
alike_no_more (c ∷ cs) (d ∷ ds) (suc i) h = alike_no_more cs ds i (λ l m. h (omega arith) (omega arith))
