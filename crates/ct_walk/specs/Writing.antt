-- What is written of walks.
use Rattle.std.specs.Prelude.{◌≡◌, ⊤, ℕ, true, false, List, [], ◌∷◌, ◌++◌, Option}
use Rattle.std.specs.Io.KnownBytes.{Appends}
use Rattle.ct_grammar.specs.declared.goal.Goal.{Goal}
use Rattle.ct_model.specs.Rehearsal.{Rehearsal}
use Rattle.ct_records.specs.Outcome.{IsOutcome}
use Rattle.ct_streams.specs.Streams.{WritesPart}
use Rattle.ct_records.specs.Text.{record_text}
use Rattle.ct_walk.specs.declared.fault.WalkFault.{WalkFault}
use Rattle.ct_walk.specs.declared.fault.WalkFault.TheVariants.{NotFound}
use Rattle.ct_walk.specs.declared.missed.Missed.{Missed}
use Rattle.ct_walk.specs.declared.options.WalkOptions.{WalkOptions}
use Rattle.ct_walk.specs.Nearness.{came_to}
use Rattle.ct_walk.specs.Shown.{is_reached}
use Rattle.ct_walk.specs.Sights.{sight_in}
use Rattle.ct_walk.specs.Walking.{walked}

-- the record is that of the walk, which shows what it is made until
abbrev pub IsWalkOf : WalkOptions → Option Goal → Rehearsal → Type 0
IsWalkOf o until w = (w ≡ walked o until) × (is_reached until w ≡ true)

-- what is told of a walk that doesn't
abbrev pub missed_by : WalkOptions → Option Goal → Missed
missed_by o until = record { sight = sight_in until; seed = o.run.seed; came_to = came_to o until }

-- the walk doesn't show what it is made until. Of other faults nothing is said
abbrev pub Misses : WalkOptions → Option Goal → WalkFault → Type 0
Misses o until (NotFound missed) = (is_reached until (walked o until) ≡ false) × (missed ≡ missed_by o until)
Misses o until _ = ⊤

-- the record of that walk, whose steps are a run that ends in a safe state, which its report shows, and a line feed, nothing
-- else, was written
abbrev pub WritesWalk : WalkOptions → Option Goal → Option (List ℕ) → Option (List ℕ) → Type 0
WritesWalk o until old new = (w : Rehearsal) × IsWalkOf o until w × IsOutcome w × Appends old new (record_text w ++ 10 ∷ [])

-- some first bytes of such a line, nothing else, were written
abbrev pub WritesWalkPart : WalkOptions → Option Goal → Option (List ℕ) → Option (List ℕ) → Type 0
WritesWalkPart o until old new = (w : Rehearsal) × IsWalkOf o until w × IsOutcome w × WritesPart old new (record_text w ++ 10 ∷ [])
