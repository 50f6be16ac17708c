-- Batches in one list, each told by where it ends.
use Rattle.std.proofs.Common.{◌≡◌, ℕ, zero, suc, ◌-◌, ◌≤◌, ◌<◌, List, [], ◌∷◌, ◌++◌, length, get_or, take, drop, slice_get, Some, None}
use Rattle.std.proofs.Common.{refl, sym, ap, ◌∙◌, arith, length-append, length-drop, Option, inl, inr}
use Rattle.std.specs.Prelude.{slice_range}
use Rattle.std.proofs.lemmas.Grind.{get_or_default_zero}
use Rattle.std.proofs.lemmas.List.{drop_all, drop-append-le, take-append-le, take_all}
use Rattle.std.proofs.lemmas.List.Folds.{drop_split}
use Rattle.std.proofs.lemmas.Option.{slice_get_past}
use Rattle.std.proofs.Math.Seq.{drop-append_seam}
use Rattle.std.specs.Option.{option_map}
use Rattle.std.specs.Slice.{IsGetRangeResult}
use denote.Ref.{Bor}
use Rattle.ct_names.specs.Message.{Message}
use Rattle.ct_names.proofs.Sets.{set-minus}
use Rattle.ct_abcast.specs.Batches.{joined}
use Rattle.ct_abcast.specs.Ends.{parts, AreEnds}
use Rattle.ct_abcast.proofs.Fresh.{keys-has}

-- as many parts as ends
pub length-parts : (start : ℕ) (ends : List ℕ) (list : List Message) → length (parts start ends list) ≡ length ends
length-parts start [] list = refl
length-parts start (end ∷ ends) list = ap suc (length-parts end ends list)

ends-low : (start : ℕ) (ends : List ℕ) (last : ℕ) → AreEnds start ends last → start ≤ last
ends-low start [] last h = omega (arith, h)
ends-low start (end ∷ ends) last h = let low = ends-low end ends last h.1 in omega (arith, h.0, low)

joined-from : (start : ℕ) (ends : List ℕ) (list : List Message) → AreEnds start ends (length list) →
    joined (parts start ends list) ≡ drop start list
joined-from start [] list h = sym (drop_all start list (omega (arith, h)))
joined-from start (end ∷ ends) list h = grind (arith, joined-from end ends list h.1, drop_split list start end h.0)

-- the parts joined are the list
pub joined-parts : (ends : List ℕ) (list : List Message) → AreEnds 0 ends (length list) → joined (parts 0 ends list) ≡ list
joined-parts ends list h = joined-from 0 ends list h

range-append : (list more : List Message) (start end : ℕ) → start ≤ end → end ≤ length list →
    slice_range (list ++ more) start end ≡ slice_range list start end
range-append list more start end low high =
    ap (λ rest. take (end - start) rest) (drop-append-le start list more (omega arith))
    ∙ take-append-le (end - start) (drop start list) more (let l = length-drop start list in omega arith)

-- what is appended is the last part
pub parts-from : (start : ℕ) (ends : List ℕ) (list more : List Message) → AreEnds start ends (length list) →
    parts start (ends ++ length (list ++ more) ∷ []) (list ++ more) ≡ parts start ends list ++ more ∷ []
parts-from start [] list more h =
    grind (arith, drop-append_seam list more, length-append list more, take_all (length more) more (omega arith))
parts-from start (end ∷ ends) list more h =
    let high = ends-low end ends (length list) h.1 in
    grind (arith, range-append list more start end h.0 high, parts-from end ends list more h.1)

ends-from : (start : ℕ) (ends : List ℕ) (last next : ℕ) → AreEnds start ends last → last ≤ next → AreEnds start (ends ++ next ∷ []) next
ends-from start [] last next h low = (omega (arith, h, low), refl)
ends-from start (end ∷ ends) last next h low = (h.0, ends-from end ends last next h.1 low)

-- a part stands from the end of the part before
record IsPart (start : ℕ) (ends : List ℕ) (list : List Message) (k from : ℕ) : Type 0 where
  pub rising : from ≤ get_or ends k 0
  pub within : get_or ends k 0 ≤ length list
  pub part : slice_get (parts start ends list) k ≡ Some (slice_range list from (get_or ends k 0))

part-from : (start : ℕ) (ends : List ℕ) (list : List Message) (k : ℕ) → AreEnds start ends (length list) → k < length ends →
    IsPart start ends list k (get_or (start ∷ ends) k 0)
part-from start [] list k h low = absurd (omega arith)
part-from start (end ∷ ends) list zero h low = record { rising = h.0; within = ends-low end ends (length list) h.1; part = refl }
part-from start (end ∷ ends) list (suc k) h low =
    grind (arith, part-from end ends list k h.1 (omega arith))

-- a part but the first starts where the part before ends
pub start-before : (ends : List ℕ) (k start : ℕ) → 0 < k → k < length ends → start ≡ get_or ends (k - 1) start →
    start ≡ get_or (0 ∷ ends) k 0
start-before ends zero start low high is = absurd (omega arith)
start-before ends (suc k) start low high is = grind (arith, get_or_default_zero ends k start (omega arith))

-- what `get` of the range lends
part-got : (list : List Message) (from to : ℕ) (r : Option (Bor (List Message))) → from ≤ to → to ≤ length list →
    IsGetRangeResult list from to r → option_map (λ part. part.now) r ≡ Some (slice_range list from to)
part-got list from to None low high h = elim h.0 [ inl k ↦ absurd (omega arith) | inr k ↦ absurd (omega arith) ]
part-got list from to (Some part) low high h = ap Some h.0.2

pub part-at : (ends : List ℕ) (list all : List Message) (k from to : ℕ) (r : Option (Bor (List Message))) → AreEnds 0 ends (length list) →
    k < length ends → all ≡ list → from ≡ get_or (0 ∷ ends) k 0 → to ≡ get_or ends k 0 → IsGetRangeResult all from to r →
    option_map (λ part. part.now) r ≡ slice_get (parts 0 ends list) k
part-at ends list all k from to r h low all_is from_is to_is got =
    let p = part-from 0 ends list k h low in
    part-got all from to r (omega arith) (omega (arith, ap length all_is)) got
    ∙ (ap Some (λ i. slice_range (all_is i) (from_is i) (to_is i)) ∙ sym p.part)

pub part-past : (ends : List ℕ) (list : List Message) (k : ℕ) → length ends ≤ k → slice_get (parts 0 ends list) k ≡ None
part-past ends list k past =
    let len = length-parts 0 ends list in
    slice_get_past (parts 0 ends list) k (omega arith)

-- the ends with one more, where more was appended
pub delivered-ends : (ends next : List ℕ) (list all more : List Message) → AreEnds 0 ends (length list) → all ≡ list ++ more →
    next ≡ ends ++ length all ∷ [] → AreEnds 0 next (length all)
delivered-ends ends next list all more h all_is next_is =
    rw next_is (ends-from 0 ends (length list) (length all) h (omega (arith, length-append list more, ap length all_is)))

-- what is told of the parts, and of what they have
pub ruleset in_parts = (length-parts, joined-parts, part-past, keys-has, take_all, set-minus)
