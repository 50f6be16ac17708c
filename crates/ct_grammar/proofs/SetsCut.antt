-- The sets of a cut, one by one.
use Rattle.std.proofs.Common.{◌≡◌, ℕ, ◌-◌, ◌≤◌, List, [], ◌∷◌, length, map, get_or, take, drop, Some, true, refl, sym, arith, Bor}
use Rattle.std.specs.Prelude.{codes}
use Rattle.std.specs.Str.{bytes_eq}
use Rattle.std.proofs.lemmas.List.{take_all}
use Rattle.ct_grammar.specs.Words.{Word}
use Rattle.ct_grammar.specs.Sides.{with_set}
use Rattle.ct_grammar.specs.Cuts.{with_sets}

-- a set with a bar behind it
pub one_more_set : (ws : List (Bor Word)) (sides named : List ℕ) (d : Bor Word) → 1 ≤ length ws →
    1 ≤ length (take (length ws - 1) (drop 1 ws)) → with_set sides (get_or ws 0 d).now ≡ Some named →
    bytes_eq (get_or (take (length ws - 1) (drop 1 ws)) 0 d).now (codes "|") ≡ true →
    let rest = take (length ws - 1) (drop 1 ws) in
    with_sets named (map (λ w. w.now) (take (length rest - 1) (drop 1 rest))) ≡ with_sets sides (map (λ w. w.now) ws)
one_more_set [] sides named d h l set bar = absurd (omega arith)
one_more_set (a ∷ []) sides named d h l set bar = absurd (omega arith)
one_more_set (a ∷ b ∷ ws) sides named d h l set bar =
    let same = take_all (length (a ∷ b ∷ ws) - 1) (b ∷ ws) (omega arith) in
    let here : bytes_eq b.now (codes "|") ≡ true = rw same at bar in
    rw (same, take_all (length (b ∷ ws) - 1) ws (omega arith)) (sym (rw (set, here) refl))
