-- The text of a tally.
use Rattle.std.specs.Prelude.{ℕ, ◌-◌, ◌/◌, ◌%◌, ◌^◌, false, List, [], ◌∷◌, Option, Some, None, codes, decimal}
use Rattle.std.specs.Fmt.{format_spec, padded_integral}
use Rattle.std.specs.List.{concat}
use Rattle.ct_find.specs.declared.count_text.CountForm.{CountForm}
use Rattle.ct_find.specs.declared.count_text.CountForm.TheVariants as form
use Rattle.ct_find.specs.declared.spread.Spread.{Spread}
use Rattle.ct_find.specs.declared.tally.Tally.{Tally}

-- so many tenths of one per cent, in per cent
abbrev pub share_text : ℕ → List ℕ
share_text share = concat (decimal (share / 10) ∷ codes "." ∷ decimal (share % 10) ∷ [])

-- ---- the table

-- the number, at the right end of a column
abbrev pub cell : ℕ → List ℕ
cell n = padded_integral (format_spec 32 3 0 11 (2 ^ 64 - 1)) false [] (decimal n)

-- what stands in a row behind its name
abbrev pub row_text : Option Spread → List ℕ
row_text None = codes "          -          -          -          -          -"
row_text (Some s) = concat (cell s.least ∷ cell s.lower ∷ cell s.median ∷ cell s.upper ∷ cell s.greatest ∷ [])

abbrev pub table_text : Tally → List ℕ
table_text t =
    concat (decimal t.shown ∷ codes " of " ∷ decimal t.tried ∷ codes " seeds " ∷ decimal t.seeds.first ∷ codes ".."
    ∷ decimal t.seeds.last ∷ codes " show it, " ∷ share_text t.share
    ∷ codes " %\n           least   quartile     median   quartile   greatest\nsteps" ∷ row_text t.steps ∷ codes "\nround"
    ∷ row_text t.rounds ∷ codes "\n" ∷ [])

-- ---- the JSON object

abbrev pub row_json : Option Spread → List ℕ
row_json None = codes "null"
row_json (Some s) =
    concat (codes "{\"least\":" ∷ decimal s.least ∷ codes ",\"lower\":" ∷ decimal s.lower ∷ codes ",\"median\":" ∷ decimal s.median
    ∷ codes ",\"upper\":" ∷ decimal s.upper ∷ codes ",\"greatest\":" ∷ decimal s.greatest ∷ codes "}" ∷ [])

abbrev pub object_text : Tally → List ℕ
object_text t =
    concat (codes "{\"first\":" ∷ decimal t.seeds.first ∷ codes ",\"last\":" ∷ decimal t.seeds.last ∷ codes ",\"tried\":"
    ∷ decimal t.tried ∷ codes ",\"shown\":" ∷ decimal t.shown ∷ codes ",\"share\":" ∷ share_text t.share ∷ codes ",\"steps\":"
    ∷ row_json t.steps ∷ codes ",\"round\":" ∷ row_json t.rounds ∷ codes "}\n" ∷ [])

-- ---- either

abbrev pub count_text : CountForm → Tally → List ℕ
count_text form.Table t = table_text t
count_text form.Json t = object_text t
