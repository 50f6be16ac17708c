-- Arrays that are written value by value: what is left of one while its first values stand there.
use Rattle.ct_json.proofs.Common.{◌≡◌, ℕ, suc, ◌+◌, ◌-◌, ◌<◌, ◌≤◌, Bool, true, false, List, [], ◌∷◌, ◌++◌, Result, Ok, Err, refl, ap, sym}
use Rattle.ct_json.proofs.Common.{◌∙◌, append_assoc, append-nil, arith, length, get_or, add-one, drop, map, OnOk, codes, flat_map, is_ok}
use Rattle.ct_json.proofs.Common.{if◌then◌else◌, quoted, Data, comma_if, compact_text, items_text, Set, counting, Step, Submit, array_of}
use Rattle.ct_json.proofs.Common.{fields_text, items_of}
use Rattle.std.proofs.Math.Seq.{drop-cons}

-- the text becomes the whole one by these values, and the bracket that closes the array
pub record IsLeft (values : List Data) (later : Bool) (now whole : List ℕ) : Type 0 where
  pub is : now ++ items_text later (items_of values) ≡ whole

-- ---- the first and the last bracket

pub array_left : (values all : List Data) (old now : List ℕ) → now ≡ old ++ codes "[" → values ≡ all →
    IsLeft values false now (old ++ compact_text (array_of all))
array_left values all old now e same = record { is = rw (e, same) (append_assoc old (codes "[") (items_text false (items_of all))) }

-- of an array at a key
pub field_left : (key head : List ℕ) (values all : List Data) (old now : List ℕ) → head ≡ 44 ∷ (quoted key ++ 58 ∷ 91 ∷ []) →
    now ≡ old ++ head → values ≡ all → IsLeft values false now (old ++ fields_text ((key, array_of all) ∷ []))
field_left key head values all old now begins e same = record {
  is = rw (e, same, begins) (append_assoc old (44 ∷ (quoted key ++ 58 ∷ 91 ∷ [])) (items_text false (items_of all))
      ∙ ap (λ t. old ++ 44 ∷ t) (append_assoc (quoted key) (58 ∷ 91 ∷ []) (items_text false (items_of all))
      ∙ ap (λ t. quoted key ++ 58 ∷ 91 ∷ t) (sym (append-nil (items_text false (items_of all))))));
}

left_none : {T E : Type 0} (r : Result T E) (values : List Data) (now end whole : List ℕ) (later : Bool) →
    IsLeft values later now whole → values ≡ [] → end ≡ (if is_ok r then now ++ codes "]" else now) → OnOk r (end ≡ whole)
left_none (Ok x) values now end whole later h none e = e ∙ ap (λ vs. now ++ items_text later (items_of vs)) (sym none) ∙ h.is
left_none (Err x) values now end whole later h none e = tt

-- ---- one more value

left_one : (value : Data) (rest values : List Data) (now mid end whole : List ℕ) (later : Bool) → IsLeft values later now whole →
    values ≡ value ∷ rest → mid ≡ now ++ comma_if later → end ≡ mid ++ compact_text value → IsLeft rest true end whole
left_one value rest values now mid end whole later h split first second = record {
  is = rw (second, first) (simp append_assoc (ap (λ vs. now ++ items_text later (items_of vs)) (sym split) ∙ h.is));
}

-- what stands for the first of these
module _ {A : Type 0} (before after : List A) (x : A) (split : before ≡ x ∷ after) (now whole : List ℕ) (later : Bool) where
  pub map_one : (f : A → Data) (mid end : List ℕ) → IsLeft (map f before) later now whole → mid ≡ now ++ comma_if later →
      end ≡ mid ++ compact_text (f x) → IsLeft (map f after) true end whole
  map_one f mid end h first second = left_one (f x) (map f after) (map f before) now mid end whole later h (ap (map f) split) first second

  pub flat_one : (f : A → List Data) (value : Data) (mid end : List ℕ) → IsLeft (flat_map f before) later now whole → f x ≡ value ∷ [] →
      mid ≡ now ++ comma_if later → end ≡ mid ++ compact_text value → IsLeft (flat_map f after) true end whole
  flat_one f value mid end h is first second =
      left_one value (flat_map f after) (flat_map f before) now mid end whole later h
      (ap (flat_map f) split ∙ ap (λ t. t ++ flat_map f after) is) first second

  pub flat_none : (f : A → List Data) → IsLeft (flat_map f before) later now whole → f x ≡ [] → IsLeft (flat_map f after) later now whole
  flat_none f h is =
      let same : flat_map f before ≡ flat_map f after = ap (flat_map f) split ∙ ap (λ t. t ++ flat_map f after) is in
      record { is = ap (λ vs. now ++ items_text later (items_of vs)) (sym same) ∙ h.is }

-- where none is left
module _ {T E A : Type 0} (r : Result T E) (xs : List A) (none : xs ≡ []) (now end whole : List ℕ) (later : Bool) where
  pub map_end : (f : A → Data) → IsLeft (map f xs) later now whole → end ≡ (if is_ok r then now ++ codes "]" else now) →
      OnOk r (end ≡ whole)
  map_end f h e = left_none r (map f xs) now end whole later h (ap (map f) none) e

  pub flat_end : (f : A → List Data) → IsLeft (flat_map f xs) later now whole → end ≡ (if is_ok r then now ++ codes "]" else now) →
      OnOk r (end ≡ whole)
  flat_end f h e = left_none r (flat_map f xs) now end whole later h (ap (flat_map f) none) e

-- ---- what is left of numbers, and of a list

pub counting_all : (first n : ℕ) → counting first (n - 0) ≡ counting first n
counting_all first n = let all : n - 0 ≡ n = omega arith in rw all refl

pub counting_next : (at n i : ℕ) → i < n → counting at (n - i) ≡ at ∷ counting (at + 1) (n - (i + 1))
counting_next at n i h = let more : n - i ≡ suc (n - (i + 1)) = omega arith in rw more refl

pub counting_none : (at n i : ℕ) → n ≤ i → counting at (n - i) ≡ []
counting_none at n i h = let none : n - i ≡ 0 = omega arith in rw none refl

pub drop_or : {A : Type 0} (xs : List A) (i : ℕ) (d : A) → i < length xs → drop i xs ≡ get_or xs i d ∷ drop (i + 1) xs
drop_or xs i d h = rw add-one (drop-cons xs i d h)

pub drop_next : {A : Type 0} (xs : List A) (i : ℕ) (x : A) → i < length xs → x ≡ get_or xs i x → drop i xs ≡ x ∷ drop (i + 1) xs
drop_next xs i x h is = drop_or xs i x h ∙ ap (λ y. y ∷ drop (i + 1) xs) (sym is)

-- the first of the steps that are left
abbrev pub first_step : List Step → ℕ → Step
first_step steps i = get_or steps i (Submit 0 (Set 0 0))

pub steps_next : (steps : List Step) (i : ℕ) → i < length steps → drop i steps ≡ first_step steps i ∷ drop (i + 1) steps
steps_next steps i h = drop_or steps i (Submit 0 (Set 0 0)) h
