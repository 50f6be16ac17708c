-- Entries that are inserted from the first on come out as they were.
use Rattle.std.proofs.Common.{◌≡◌, ℕ, false, ◌==◌, List, [], ◌∷◌, ◌++◌, refl, ap, ◌∙◌, append_assoc, arith}
use Rattle.std.proofs.lemmas.List.{map-append}
use Rattle.std.specs.List.{list_any, IsDistinct}
use Rattle.std.specs.Map.{keys_of}
use Rattle.indexmap.specs.IndexMap.{insert_entry}
use Rattle.ct_names.proofs.Distinct.{absent_before, eq-symm}

-- a key that is not there comes last
insert_entry-new : {V : Type 0} (es : List (ℕ × V)) (k : ℕ) (v : V) → list_any (λ key. k == key) (keys_of es) ≡ false →
    insert_entry (λ a b. a == b) es k v ≡ es ++ (k, v) ∷ []
insert_entry-new [] k v absent = refl
insert_entry-new (e ∷ es) k v absent = grind (arith, insert_entry-new es k v)

insert_entry-next : {V : Type 0} (done : List (ℕ × V)) (e : ℕ × V) (left : List (ℕ × V)) →
    IsDistinct (λ a b. a == b) (keys_of (done ++ e ∷ left)) → insert_entry (λ a b. a == b) done e.0 e.1 ≡ done ++ e ∷ []
insert_entry-next done e left distinct =
    insert_entry-new done e.0 e.1 (absent_before (λ a b. a == b) eq-symm (keys_of done) e.0 (keys_of left)
    (rw (map-append (λ e. e.0) done (e ∷ left)) at distinct))

-- once the next of the entries is inserted too, the new ones and those that are left are all of them
pub copied-next : {V : Type 0} (done : List (ℕ × V)) (k : ℕ) (v : V) (left all new : List (ℕ × V)) →
    new ≡ insert_entry (λ a b. a == b) done k v → done ++ (k, v) ∷ left ≡ all → IsDistinct (λ a b. a == b) (keys_of all) → new ++ left ≡ all
copied-next done k v left all new inserted whole distinct =
    let last = insert_entry-next done (k, v) left (rw whole distinct) in
    ap (λ es. es ++ left) (inserted ∙ last) ∙ append_assoc done ((k, v) ∷ []) left ∙ whole
