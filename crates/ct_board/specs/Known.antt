-- What is known place by place: nothing, or a value.
use Rattle.std.specs.Prelude.{◌≡◌, ℕ, List, Option, Some, None, filter_map, slice_index_or}

-- the values that are known
abbrev pub somes : {A : Type 0} → List (Option A) → List A
somes known = filter_map (λ o. o) known

-- x is known at the place
abbrev pub Knows : {A : Type 0} → List (Option A) → ℕ → A → Type 0
Knows known place x = slice_index_or known place None ≡ Some x

-- what was known is known still
abbrev pub Keeps : {A : Type 0} → List (Option A) → List (Option A) → Type 0
Keeps {A} old new = (place : ℕ) (x : A) → Knows old place x → Knows new place x

-- where both know a value it is the same
abbrev pub SameWhereKnown : {A : Type 0} → List (Option A) → List (Option A) → Type 0
SameWhereKnown {A} known other = (place : ℕ) (x y : A) → Knows known place x → Knows other place y → x ≡ y
