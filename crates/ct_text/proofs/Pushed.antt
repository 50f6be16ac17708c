-- Texts that are made of pieces, one appended after the other.
use Rattle.std.proofs.Common.{◌≡◌, ℕ, List, [], ◌∷◌, ◌++◌, Result, Ok, Err, ap, sym, ◌∙◌, append_assoc, append-nil}
use Rattle.std.specs.Prelude.{OnOk, is_ok, if◌then◌else◌}
use Rattle.std.specs.List.{concat}
use Rattle.std.proofs.lemmas.List.Folds.{concat-append}

-- the first piece
pub pushed_first : (y old end : List ℕ) → end ≡ old ++ y → end ≡ old ++ concat (y ∷ [])
pushed_first y old end first = first ∙ ap (λ t. old ++ t) (sym (append-nil y))

-- a text and a value
pub pushed_value : (x y old end : List ℕ) → end ≡ old ++ (x ++ y) → end ≡ old ++ concat (x ∷ y ∷ [])
pushed_value x y old end first = first ∙ ap (λ t. old ++ (x ++ t)) (sym (append-nil y))

-- one more
pub pushed_more : (xs : List (List ℕ)) (y old mid end : List ℕ) → mid ≡ old ++ concat xs → end ≡ mid ++ y →
    end ≡ old ++ concat (xs ++ y ∷ [])
pushed_more xs y old mid end first second =
    second ∙ ap (λ s. s ++ y) first ∙ append_assoc old (concat xs) y
    ∙ ap (λ s. old ++ s) (ap (λ t. concat xs ++ t) (sym (append-nil y)) ∙ sym (concat-append xs (y ∷ [])))

-- several more
pub pushed_pieces : (xs ys : List (List ℕ)) (old mid end : List ℕ) → mid ≡ old ++ concat xs → end ≡ mid ++ concat ys →
    end ≡ old ++ concat (xs ++ ys)
pushed_pieces xs ys old mid end first second =
    second ∙ ap (λ s. s ++ concat ys) first ∙ append_assoc old (concat xs) (concat ys) ∙ ap (λ s. old ++ s) (sym (concat-append xs ys))

-- the last one
pub pushed_last : {T E : Type 0} (r : Result T E) (xs : List (List ℕ)) (y old mid end : List ℕ) → mid ≡ old ++ concat xs →
    OnOk r (end ≡ mid ++ y) → OnOk r (end ≡ old ++ concat (xs ++ y ∷ []))
pushed_last (Ok x) xs y old mid end first second = pushed_more xs y old mid end first second
pushed_last (Err e) xs y old mid end first second = tt

-- the last one, by a call of `push_str`
pub pushed_str : {T E : Type 0} (r : Result T E) (xs : List (List ℕ)) (y old mid end : List ℕ) → mid ≡ old ++ concat xs →
    end ≡ (if is_ok r then mid ++ y else mid) → OnOk r (end ≡ old ++ concat (xs ++ y ∷ []))
pushed_str (Ok x) xs y old mid end first second = pushed_more xs y old mid end first second
pushed_str (Err e) xs y old mid end first second = tt
