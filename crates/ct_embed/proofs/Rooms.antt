-- A room that is filled from its beginning.
use Rattle.std.proofs.Common.{◌≡◌, ◌+◌, ◌<◌, ◌∙◌, ℕ, List, [], ◌∷◌, ◌++◌}
use Rattle.std.proofs.Common.{length, take, drop, get_or, set, ap, sym, arith, append_assoc, map}
use Rattle.std.proofs.lemmas.List.{drop_more, take_more, set_at, length-take-le, get_or-map, length-map}

-- one more of the list
pub filled_more : {A : Type 0} (coded old room : List A) (i : ℕ) (x : A) → i < length coded → i < length old →
    room ≡ take i coded ++ drop i old → get_or coded i x ≡ x → set room i x ≡ take (i + 1) coded ++ drop (i + 1) old
filled_more {A} coded old room i x within fits so_far next =
    ap (λ (r : List A). set r i x) (so_far ∙ ap (λ (l : List A). take i coded ++ l) (drop_more old i x fits))
    ∙ set_at (take i coded) (get_or old i x) (drop (i + 1) old) x i (length-take-le i coded (omega (arith, within)))
    ∙ ap (λ (y : A). take i coded ++ y ∷ drop (i + 1) old) (sym next)
    ∙ sym (ap (λ (l : List A). l ++ drop (i + 1) old) (take_more coded i x within)
    ∙ append_assoc (take i coded) (get_or coded i x ∷ []) (drop (i + 1) old))

-- one more of a list of which each item is shown by f
pub shown_more : {A B : Type 0} (f : B → A) (list : List B) (old room : List A) (i : ℕ) (d : B) (x : A) → i < length list → i < length old →
    room ≡ take i (map f list) ++ drop i old → x ≡ f (get_or list i d) → set room i x ≡ take (i + 1) (map f list) ++ drop (i + 1) old
shown_more f list old room i d x within fits so_far is =
    filled_more (map f list) old room i x (omega (arith, length-map list f, within)) fits so_far (get_or-map f list i d x within ∙ sym is)
