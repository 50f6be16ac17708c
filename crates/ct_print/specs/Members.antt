-- Members, as lines name them.
use Rattle.std.specs.Prelude.{ℕ, ◌==◌, List, [], ◌∷◌, length, map, codes, decimal, if◌then◌else◌}
use Rattle.std.specs.List.{concat, join_with_byte}
use Rattle.ct_grammar.specs.declared.who.Who.{Who}
use Rattle.ct_grammar.specs.declared.who.Who.TheVariants.{One, Some as Several, All}
use Rattle.ct_grammar.specs.Words.{Word}

-- the members, with commas between them
unfoldable pub set_text : List ℕ → Word
set_text set = join_with_byte 44 (map decimal set)

-- the same; a dash where there are none
unfoldable pub set_or_dash_text : List ℕ → Word
set_or_dash_text set = if length set == 0 then codes "-" else set_text set

-- the members, as a list that has a comma: a member that is alone stands there twice
unfoldable pub list_text : List ℕ → Word
list_text set = if length set == 1 then concat (set_text set ∷ codes "," ∷ set_text set ∷ []) else set_text set

-- a member, a list or `all`
unfoldable pub who_text : Who → Word
who_text (One p) = decimal p
who_text (Several set) = list_text set
who_text All = codes "all"
