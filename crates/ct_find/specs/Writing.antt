-- What is written of a search.
use Rattle.std.specs.Prelude.{◌≡◌, ◌⊎◌, ℕ, List, length, option_map, take, Option, Some, None}
use Rattle.ct_walk.specs.declared.fault.WalkFault.{WalkFault}
use Rattle.ct_walk.specs.declared.fault.WalkFault.TheVariants.{Write}
use Rattle.ct_walk.specs.Faults.{IsShort}
use Rattle.ct_walk.specs.Finding.{first_of}
use Rattle.ct_walk.specs.Options.{with_seed}
use Rattle.ct_walk.specs.Walking.{walked}
use Rattle.ct_walk.specs.Writing.{WritesWalk, WritesWalkPart}
use Rattle.ct_find.specs.declared.again.Again.{Again}
use Rattle.ct_find.specs.declared.call.FindCall.{FindCall}
use Rattle.ct_find.specs.declared.fault.FindFault.{FindFault}
use Rattle.ct_find.specs.declared.fault.FindFault.TheVariants.{Walk, NotFound}
use Rattle.ct_find.specs.declared.found_seed.FoundSeed.{FoundSeed}
use Rattle.ct_find.specs.declared.hit.Hit.{Hit}
use Rattle.ct_find.specs.Hits.{hits_of}
use Rattle.ct_find.specs.Texts.{quoted}

-- the seed that is looked for, and how many steps its walk has
abbrev pub seed_for : FindCall → Option FoundSeed
seed_for call =
    option_map (λ seed. record { seed = seed; steps = length (walked (with_seed call.options seed) (Some call.goal)).steps })
    (first_of call.options call.goal call.seeds)

-- the record of the walk of the first seed that shows the goal, and a line feed, nothing else, was written
abbrev pub WritesFound : FindCall → Option (List ℕ) → Option (List ℕ) → Type 0
WritesFound call old new =
    (seed : ℕ) × (first_of call.options call.goal call.seeds ≡ Some seed)
    × WritesWalk (with_seed call.options seed) (Some call.goal) old new

-- some first bytes of that, nothing else, were written
abbrev pub WritesFoundPart : FindCall → Option (List ℕ) → Option (List ℕ) → Type 0
WritesFoundPart call old new =
    (seed : ℕ) × (first_of call.options call.goal call.seeds ≡ Some seed)
    × WritesWalkPart (with_seed call.options seed) (Some call.goal) old new

-- the first so many seeds whose walks show the goal
abbrev pub first_hits : FindCall → ℕ → List Hit
first_hits call count = take count (hits_of call.options call.goal call.seeds)

-- memory or the board was short, or a write failed
abbrev pub IsOfRun : WalkFault → Type 0
IsOfRun fault = IsShort fault ⊎ (fault ≡ Write)

-- no seed's walk shows the goal, and the seeds and the words of the goal are told; or one of those
abbrev pub FindsNothing : FindCall → FindFault → Type 0
FindsNothing call (NotFound none) =
    (first_of call.options call.goal call.seeds ≡ None) × (none.seeds ≡ call.seeds) × (none.goal ≡ call.text)
FindsNothing call (Walk fault) = IsOfRun fault

-- the words are those of the walk of this seed
abbrev pub Repeats : FindCall → ℕ → Again → Type 0
Repeats call seed again = again ≡ record { options = call.options; seed = seed; goal = quoted call.text }
