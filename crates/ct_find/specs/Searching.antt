-- What a search has to find, and in which parts.
use Rattle.std.specs.Prelude.{ℕ, ◌+◌, ◌-◌, min, Bool, false, nat_le, List, [], ◌∷◌, length, take, Option, Some, None}
use Rattle.ct_grammar.specs.declared.goal.Goal.{Goal}
use Rattle.ct_walk.specs.declared.options.WalkOptions.{WalkOptions}
use Rattle.ct_walk.specs.declared.walk_size.WalkSize.{WalkSize}
use Rattle.ct_find.specs.declared.hit.Hit.{Hit}
use Rattle.ct_find.specs.declared.search.Which.{Which}
use Rattle.ct_find.specs.declared.search.Which.TheVariants.{First, All}
use Rattle.ct_find.specs.Hits.{hits_from}

-- this seed, where its walk shows the goal and goes so far
abbrev pub hit_at : ℕ → Option WalkSize → List Hit
hit_at seed None = []
hit_at seed (Some size) = record { seed = seed; size = size } ∷ []

-- those that are asked for: so many of the first ones, or all
abbrev pub asked : Which → List Hit → List Hit
asked (First count) hits = take count hits
asked All hits = hits

-- no more are asked for than these
abbrev pub is_enough : Which → List Hit → Bool
is_enough (First count) hits = nat_le count (length hits)
is_enough All hits = false

-- those of the part that begins at this seed and has so many, below the end
abbrev pub part_of : Which → WalkOptions → Goal → ℕ → ℕ → ℕ → List Hit
part_of which o goal first each end = asked which (hits_from o goal first (min end (first + each) - first))
