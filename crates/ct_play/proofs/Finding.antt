-- The first element that passes a test, one element more at a time.
use Rattle.std.proofs.Common.{◌≡◌, ℕ, ◌+◌, ◌<◌, Bool, true, false, List, [], ◌∷◌, length, take, drop, get_or}
use Rattle.std.proofs.Common.{Some, None, sym, ap, ◌∙◌, refl}
use Rattle.std.specs.Prelude.{find}
use Rattle.std.specs.Option.{option_or}
use Rattle.std.proofs.lemmas.Grind.{take_at_read}
use Rattle.std.proofs.lemmas.List.{drop_more, take-append-drop}
use Rattle.std.proofs.lemmas.List.Folds.{find-append}

find_one : {X : Type 0} (test : X → Bool) (x : X) (b : Bool) → test x ≡ b → find test (x ∷ []) ≡ elim b [ true ↦ Some x | false ↦ None ]
find_one test x true e = rw e refl
find_one test x false e = rw e refl

find_first : {X : Type 0} (test : X → Bool) (x : X) (xs : List X) → test x ≡ true → find test (x ∷ xs) ≡ Some x
find_first test x xs e = rw e refl

-- none up to here
pub passed_over : {X : Type 0} (test : X → Bool) (xs : List X) (i : ℕ) (d : X) → i < length xs → find test (take i xs) ≡ None →
    test (get_or xs i d) ≡ false → find test (take (i + 1) xs) ≡ None
passed_over test xs i d lt before h =
    ap (find test) ((take_at_read xs i d lt).1)
    ∙ (find-append test (take i xs) (get_or xs i d ∷ [])
    ∙ (ap (λ o. option_or o (find test (get_or xs i d ∷ []))) before
    ∙ find_one test (get_or xs i d) false h))

-- the first one is here
pub found_here : {X : Type 0} (test : X → Bool) (xs : List X) (i : ℕ) (d : X) → i < length xs → find test (take i xs) ≡ None →
    test (get_or xs i d) ≡ true → find test xs ≡ Some (get_or xs i d)
found_here test xs i d lt before h =
    ap (find test) (sym (take-append-drop i xs))
    ∙ (find-append test (take i xs) (drop i xs)
    ∙ (ap (λ o. option_or o (find test (drop i xs))) before
    ∙ (ap (find test) (drop_more xs i d lt) ∙ find_first test (get_or xs i d) (drop (i + 1) xs) h)))
