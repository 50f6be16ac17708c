-- The members of a group, one more at a time.
use Rattle.std.proofs.Common.{◌≡◌, ℕ, zero, suc, ◌+◌, [], ◌∷◌, ◌++◌, ap, ◌∙◌, arith, add-one}
use Rattle.ct_names.specs.Group.{counting, members}

counting_next : (first k : ℕ) → counting first (suc k) ≡ counting first k ++ (first + k) ∷ []
counting_next first zero =
    let e : first ≡ first + 0 = omega arith in
    ap (λ n. n ∷ []) e
counting_next first (suc k) =
    let e : first + 1 + k ≡ first + suc k = omega arith in
    ap (λ l. first ∷ l) (counting_next (first + 1) k ∙ ap (λ n. counting (first + 1) k ++ n ∷ []) e)

pub members_more : (i : ℕ) → members (i + 1) ≡ members i ++ (i + 1) ∷ []
unfolding members
members_more i =
    let e : 1 + i ≡ i + 1 = omega arith in
    ap (counting 1) (add-one i) ∙ (counting_next 1 i ∙ ap (λ n. counting 1 i ++ n ∷ []) e)
