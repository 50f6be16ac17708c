-- The seeds whose walks show a goal.
use Rattle.std.specs.Prelude.{ℕ, List, filter, map}
use Rattle.std.specs.List.{range_with_len}
use Rattle.ct_grammar.specs.declared.goal.Goal.{Goal}
use Rattle.ct_walk.specs.declared.call.Seeds.{Seeds}
use Rattle.ct_walk.specs.declared.options.WalkOptions.{WalkOptions}
use Rattle.ct_walk.specs.Finding.{finds, seeds_to}
use Rattle.ct_walk.specs.Sizes.{size_of}
use Rattle.ct_find.specs.declared.hit.Hit.{Hit}

-- such a seed, and how far its walk goes
abbrev pub hit_of : WalkOptions → Goal → ℕ → Hit
hit_of o goal seed = record { seed = seed; size = size_of o goal seed }

-- of so many seeds, from this one on, those whose walks show the goal, in their order
unfoldable pub hits_from : WalkOptions → Goal → ℕ → ℕ → List Hit
hits_from o goal seed count = map (hit_of o goal) (filter (finds o goal) (range_with_len seed count))

-- of these seeds
abbrev pub hits_of : WalkOptions → Goal → Seeds → List Hit
hits_of o goal seeds = hits_from o goal seeds.first (seeds_to seeds.first seeds.last)
