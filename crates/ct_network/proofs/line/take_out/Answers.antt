use Rattle.std.proofs.Common.{◌≡◌, ◌+◌, ◌-◌, ◌<◌, ◌++◌, length, drop, take, remove, ℕ, List, suc, refl, ap, sym, ◌∙◌, append_assoc, arith}
use Rattle.std.specs.List.{copy_within}
use Rattle.std.proofs.lemmas.List.{drop-drop, drop_at, length-take-le}
use Rattle.ct_network.proofs.line.take_out.Goals as goal

-- what stands behind the place a, once the i before its i-th were copied one place on
pulled : (xs : List ℕ) (a i j : ℕ) → a + i < length xs → j ≡ a + i → drop (a + 1) (copy_within xs a j (a + 1)) ≡ remove (drop a xs) i
pulled xs a i j h end =
    let back : j - a ≡ i = omega (arith, end) in
    let place : a + 1 + i ≡ a + suc i = omega arith in
    ap (drop (a + 1)) (append_assoc (take (a + 1) xs) (take (j - a) (drop a xs)) (drop (a + 1 + (j - a)) xs))
    ∙ ap (λ k. drop (a + 1) (take (a + 1) xs ++ (take k (drop a xs) ++ drop (a + 1 + k) xs))) back
    ∙ drop_at (take (a + 1) xs) (take i (drop a xs) ++ drop (a + 1 + i) xs) (a + 1) (length-take-le (a + 1) xs (omega (arith, h)))
    ∙ ap (λ k. take i (drop a xs) ++ drop k xs) place
    ∙ ap (λ zs. take i (drop a xs) ++ zs) (sym (drop-drop (suc i) a xs))

pub returns-then-at-gt0 : goal.returns-then-at-gt0
returns-then-at-gt0 c = ap (drop (c.args.start + 1)) c.copy_within.ensures.after
    ∙ pulled c.args.kept.now c.args.start c.args.at (c.args.start + c.args.at) c.requires refl

pub returns-else-at-gt0 : goal.returns-else-at-gt0
returns-else-at-gt0 c =
    let first : c.args.at ≡ 0 = omega arith in
    sym (drop-drop 1 c.args.start c.args.kept.now) ∙ ap (remove (drop c.args.start c.args.kept.now)) (sym first)
