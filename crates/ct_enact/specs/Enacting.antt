-- Schedules whose runs have the deliveries of logs.
use Rattle.std.specs.Prelude.{◌≡◌, ℕ, List, Option, Ok}
use Rattle.std.specs.Io.KnownBytes.{Appends}
use Rattle.ct_model.specs.Rehearsal.{Rehearsal}
use Rattle.ct_streams.specs.Streams.{WritesPart}
use Rattle.ct_order.specs.declared.reading.Judged.{Judged}
use Rattle.ct_order.specs.declared.standing.Standing.{Standing}
use Rattle.ct_order.specs.Orders.{IsAtomic, Said}
use Rattle.ct_order.specs.Reading.{HasSaid, standings_of}
use Rattle.ct_judging.specs.Schedule.{schedule}
use Rattle.ct_judge.specs.Schedule.{IsSafeRun}
use Rattle.ct_enact.specs.Enacted.{IsEnacted, Matches}

-- the logs of these texts are those of one atomic broadcast, and the text is a schedule whose run has their deliveries
pub record IsScheduleOf (texts : List (List ℕ)) (text : List ℕ) : Type 0 where
  pub said : List Said
  pub ends : List Standing
  pub has_said : HasSaid texts said ends
  pub atomic : IsAtomic said
  pub run : Rehearsal
  pub plays : schedule text ≡ Ok run
  pub enacted : IsEnacted said ends run

-- such a text, and nothing else, was written
abbrev pub WritesEnacted : List (List ℕ) → Option (List ℕ) → Option (List ℕ) → Type 0
WritesEnacted texts old new = (text : List ℕ) × IsScheduleOf texts text × Appends old new text

-- the same, and some first bytes of it, and nothing else, were written
abbrev pub WritesEnactedInPart : List (List ℕ) → Option (List ℕ) → Option (List ℕ) → Type 0
WritesEnactedInPart texts old new = (text : List ℕ) × IsScheduleOf texts text × WritesPart old new text

-- the text is a schedule whose run is safe, and what is told of the logs is that of the run
pub record IsPlayed (judged : Judged) (text : List ℕ) : Type 0 where
  pub run : Rehearsal
  pub plays : schedule text ≡ Ok run
  pub safe : IsSafeRun run
  pub matches : Matches judged.table (standings_of judged.ends.items) run
