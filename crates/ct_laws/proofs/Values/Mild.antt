-- Values whose numbers are whole and fit 64 bits, and that nest no deeper than so many arrays and objects.
use Rattle.ct_laws.proofs.Finding.{Each, each_from}
use Rattle.std.proofs.Common.{ℕ, zero, suc, ◌+◌, ◌≤◌, ◌<◌, ◌^◌, List, [], ◌∷◌, ◌++◌, map, arith}
use Rattle.std.specs.Prelude.{flat_map, ⊤}
use Rattle.ct_names.specs.Group.{counting}
use Rattle.ct_names.proofs.Groups.{counting-range}
use Rattle.serde_json.specs.Data.{Num, unsigned, negative, float, Data, null, boolean, number, string, array, object, Items, no_items, item}
use Rattle.serde_json.specs.Data.{Members, no_members, member}
use Rattle.ct_json.specs.Fields.{Field, items_of, members_of}

-- a number from 0 up to the largest of 64 bits
abbrev pub IsWhole : Num → Type 0
IsWhole (unsigned n) = n < 2 ^ 64
IsWhole (negative z) = ⊥
IsWhole (float x) = ⊥

-- each number of the value is one, and at most k arrays and objects stand in one another
abbrev mutual
  pub IsMild : ℕ → Data → Type 0
  IsMild k null = ⊤
  IsMild k (boolean b) = ⊤
  IsMild k (number n) = IsWhole n
  IsMild k (string s) = ⊤
  IsMild zero (array ds) = ⊥
  IsMild (suc k) (array ds) = ItemsAreMild k ds
  IsMild zero (object ms) = ⊥
  IsMild (suc k) (object ms) = MembersAreMild k ms

  pub ItemsAreMild : ℕ → Items → Type 0
  ItemsAreMild k no_items = ⊤
  ItemsAreMild k (item d ds) = IsMild k d × ItemsAreMild k ds

  pub MembersAreMild : ℕ → Members → Type 0
  MembersAreMild k no_members = ⊤
  MembersAreMild k (member key d ms) = IsMild k d × MembersAreMild k ms

-- ---- keys, and what stands for each of a list

-- the values of these keys are so
abbrev pub AreMild : ℕ → List Field → Type 0
AreMild k fields = MembersAreMild k (members_of fields)

pub both_mild : (k : ℕ) (some more : List Field) → AreMild k some → AreMild k more → AreMild k (some ++ more)
both_mild k [] more h i = i
both_mild k (field ∷ some) more h i = (h.0, both_mild k some more h.1 i)

pub mild_by : {A : Type 0} (k : ℕ) (P : A → Type 0) (value : A → Data) (xs : List A) → Each P xs →
    ((x : A) → P x → IsMild k (value x)) → ItemsAreMild k (items_of (map value xs))
mild_by k P value [] each h = tt
mild_by k P value (x ∷ xs) each h = (h x each.0, mild_by k P value xs each.1 h)

items_both : (k : ℕ) (some more : List Data) → ItemsAreMild k (items_of some) → ItemsAreMild k (items_of more) →
    ItemsAreMild k (items_of (some ++ more))
items_both k [] more h i = i
items_both k (d ∷ some) more h i = (h.0, items_both k some more h.1 i)

pub mild_flat : {A : Type 0} (k : ℕ) (P : A → Type 0) (f : A → List Data) (xs : List A) → Each P xs →
    ((x : A) → P x → ItemsAreMild k (items_of (f x))) → ItemsAreMild k (items_of (flat_map f xs))
mild_flat k P f [] each h = tt
mild_flat k P f (x ∷ xs) each h = items_both k (f x) (flat_map f xs) (h x each.0) (mild_flat k P f xs each.1 h)

-- the numbers from the first on
pub each_counted : (first k most : ℕ) → first + k ≤ most + 1 → Each (λ n. (first ≤ n) × (n ≤ most)) (counting first k)
each_counted first k most h =
    each_from _ (counting first k) (λ x i. let range = counting-range first k x i in (range.0, omega (arith, range.1)))
