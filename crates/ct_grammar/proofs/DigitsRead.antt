-- Numbers above the limit.
use Rattle.std.proofs.Common.{◌≡◌, ℕ, ◌+◌, ◌-◌, ◌*◌, ◌<◌, List, [], ◌∷◌, None, length, get_or, drop, arith}
use Rattle.std.proofs.lemmas.Bool.Decides.{nat_tests}
use Rattle.std.proofs.lemmas.List.{drop_more}
use Rattle.ct_grammar.specs.Numbers.{number_behind}

-- more digits make no number smaller
too_high : (high n : ℕ) (cs : List ℕ) → high < n → number_behind high n cs ≡ None
too_high high n [] h = grind (arith, nat_tests)
too_high high n (c ∷ cs) h = grind (arith, too_high high (n * 10 + (c - 48)) cs (omega arith))

-- nor does the one at this place of the word
pub next_too_high : (high n i : ℕ) (word : List ℕ) → i < length word → high < n * 10 + (get_or word i 0 - 48) →
    number_behind high n (drop i word) ≡ None
next_too_high high n i word l h =
    rw (drop_more word i 0 l) (grind (arith, too_high high (n * 10 + (get_or word i 0 - 48)) (drop (i + 1) word) h))
