-- The entries of an array, as a list.
use Rattle.ct_records.proofs.Common.{◌≡◌, ◌<◌, ◌≤◌, suc, List, [], ◌∷◌, length, map, None, refl, ap, arith, String, Data, view, items_of}
use Rattle.ct_records.proofs.Common.{items_view, members_view, Value, list_of, count_of, command_parts, step_parts}
use Rattle.std.specs.declared.alloc.Global.{Global}

of_items : (ds : List Data) → list_of (items_of ds) ≡ ds
of_items [] = refl
of_items (d ∷ ds) = ap (λ xs. d ∷ xs) (of_items ds)

pub list_of_items : (vs : List Value) → list_of (items_view vs) ≡ map view vs
list_of_items vs = of_items (map view vs)

pub command_parts_short : (vs : List Value) → length vs < 3 → command_parts (map view vs) ≡ None
command_parts_short (a ∷ b ∷ c ∷ vs) h = absurd (omega arith)
command_parts_short _ h = refl

pub command_parts_long : (vs : List Value) → 4 ≤ length vs → command_parts (map view vs) ≡ None
command_parts_long (a ∷ b ∷ c ∷ []) h = absurd (omega arith)
command_parts_long _ h = refl

pub step_parts_short : (vs : List Value) → length vs < 2 → step_parts (map view vs) ≡ None
step_parts_short (a ∷ b ∷ vs) h = absurd (omega arith)
step_parts_short _ h = refl

pub step_parts_long : (vs : List Value) → 4 ≤ length vs → step_parts (map view vs) ≡ None
step_parts_long (a ∷ b ∷ []) h = absurd (omega arith)
step_parts_long (a ∷ b ∷ c ∷ []) h = absurd (omega arith)
step_parts_long _ h = refl

pub count_of_members : (es : List (String Global × Value)) → count_of (members_view es) ≡ length es
count_of_members [] = refl
count_of_members (e ∷ es) = ap suc (count_of_members es)
