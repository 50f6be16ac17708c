-- Reading steps one after the other.
use Rattle.ct_records.proofs.Common.{arith, ◌≡◌, ℕ, suc, ◌+◌, ◌<◌, ◌≤◌, List, [], ◌∷◌, ◌++◌, length, get_or, Some, None, Result, Ok, Err}
use Rattle.ct_records.proofs.Common.{refl, sym, ap, ◌∙◌, add-one, append_assoc, append-nil, nat_tests, drop, map, drop-cons, drop_all}
use Rattle.ct_records.proofs.Common.{length-map, get_or-map, view, Value, Step, Shape, ◌>>=◌, step_in}
use Rattle.ct_records.specs.declared.read_fault.ReadFault.{ReadFault}
use Rattle.ct_records.specs.Script.{steps_of}

-- what was read before, and what is still read
abbrev pub with_front : List Step → Result (List Step) ReadFault → Result (List Step) ReadFault
with_front front read = read >>= λ ss. Ok (front ++ ss)

regroup : (front : List Step) (s : Step) (read : Result (List Step) ReadFault) →
    with_front front (read >>= λ ss. Ok (s ∷ ss)) ≡ with_front (front ++ s ∷ []) read
regroup front s (Ok ss) = ap (λ xs. Ok xs) (simp append_assoc)
regroup front s (Err e) = refl

split : (vs : List Value) (i : ℕ) (d : Value) → i < length vs → drop i (map view vs) ≡ view (get_or vs i d) ∷ drop (i + 1) (map view vs)
split vs i d lt =
    let l : i < length (map view vs) = rw length-map lt in
    rw add-one (drop-cons (map view vs) i (view d) l ∙ ap (λ x. x ∷ drop (suc i) (map view vs)) (get_or-map view vs i d (view d) lt))

pub steps_go : (version : ℕ) (front new : List Step) (i : ℕ) (vs : List Value) (d : Value) (s : Step)
    (total : Result (List Step) ReadFault) →
    i < length vs → d ≡ get_or vs i d → Some s ≡ step_in version (view d) → new ≡ front ++ s ∷ []
    → with_front front (steps_of version (i + 1) (drop i (map view vs))) ≡ total →
    with_front new (steps_of version (i + 1 + 1) (drop (i + 1) (map view vs))) ≡ total
unfolding steps_of
steps_go version front new i vs d s total lt here h e so_far =
    let one : with_front front (steps_of version (i + 1) (drop i (map view vs)))
    ≡ with_front (front ++ s ∷ []) (steps_of version (i + 1 + 1) (drop (i + 1) (map view vs))) =
    rw (split vs i d lt, ← here, ← h) (regroup front s (steps_of version (i + 1 + 1) (drop (i + 1) (map view vs)))) in
    rw e (sym one ∙ so_far)

pub steps_stop : (version : ℕ) (front : List Step) (i : ℕ) (vs : List Value) (d : Value) (total : Result (List Step) ReadFault)
    → i < length vs →
    d ≡ get_or vs i d → None ≡ step_in version (view d)
    → with_front front (steps_of version (i + 1) (drop i (map view vs))) ≡ total → total ≡ Err (Shape (i + 1))
unfolding steps_of
steps_stop version front i vs d total lt here h so_far =
    grind (arith, nat_tests, with_front front (steps_of version (i + 1) (drop i (map view vs))), split vs i d lt)

pub steps_end : (version : ℕ) (front : List Step) (i : ℕ) (vs : List Value) (total : Result (List Step) ReadFault) → length vs ≤ i →
    with_front front (steps_of version (i + 1) (drop i (map view vs))) ≡ total → total ≡ Ok front
unfolding steps_of
steps_end version front i vs total le so_far =
    let none : drop i (map view vs) ≡ [] = drop_all i (map view vs) (rw length-map le) in
    let one : with_front front (steps_of version (i + 1) (drop i (map view vs))) ≡ Ok front = rw none
    (ap (λ xs. Ok xs) (append-nil front)) in
    sym so_far ∙ one
