-- What reports say of members, as lines say it.
use Rattle.std.specs.Prelude.{ℕ, List, [], ◌∷◌, codes, decimal, map, Option, Some, None}
use Rattle.std.specs.List.{concat, join_with_byte}
use Rattle.ct_text.specs.Lists.{list_text}
use Rattle.ct_grammar.specs.declared.claim.Name.{Name}
use Rattle.ct_grammar.specs.declared.reports.decision.Decision.{Decision}
use Rattle.ct_grammar.specs.declared.reports.estimate.Estimate.{Estimate}
use Rattle.ct_grammar.specs.Words.{Word}

-- the name of a message
unfoldable pub name_text : Name → Word
name_text name = concat (decimal name.origin ∷ codes "." ∷ decimal name.number ∷ [])

-- names, with this byte between each two; a dash where there are none
abbrev pub names_text : ℕ → List Name → List ℕ
names_text byte names = list_text byte (map name_text names)

-- what was decided for an instance, with commas
unfoldable pub decision_text : Decision → Word
decision_text d = concat (decimal d.instance ∷ codes ":" ∷ names_text 44 d.names ∷ [])

-- decisions, with spaces; a dash where there are none
abbrev pub decisions_text : List Decision → List ℕ
decisions_text decisions = list_text 32 (map decision_text decisions)

-- the messages of a value, in braces
unfoldable pub value_text : List Name → Word
value_text names = concat (codes "{" ∷ join_with_byte 44 (map name_text names) ∷ codes "}" ∷ [])

-- an estimate and its ts; a dash where there is none
abbrev pub estimate_text : Option Estimate → List ℕ
estimate_text None = codes "-"
estimate_text (Some e) = concat (value_text e.names ∷ codes " ts " ∷ decimal e.ts ∷ [])
