-- What is written of a count.
use Rattle.std.specs.Prelude.{ℕ, nat_lt, List, length, Option, Some, None, if◌then◌else◌}
use Rattle.std.specs.Io.KnownBytes.{Appends}
use Rattle.ct_streams.specs.Streams.{WritesPart}
use Rattle.ct_find.specs.declared.call.FindCall.{FindCall}
use Rattle.ct_find.specs.declared.count_text.CountForm.{CountForm}
use Rattle.ct_find.specs.declared.fault.FindFault.{FindFault}
use Rattle.ct_find.specs.declared.fault.FindFault.TheVariants.{Walk, NotFound}
use Rattle.ct_find.specs.declared.fault.NotFound.{NotFound as None_shown}
use Rattle.ct_find.specs.declared.tally.Tally.{Tally}
use Rattle.ct_find.specs.Counts.{count_text}
use Rattle.ct_find.specs.Hits.{hits_of}
use Rattle.ct_find.specs.Tallies.{IsTallyOf}
use Rattle.ct_find.specs.Writing.{IsOfRun}

-- the text of the tally, nothing else, was written
abbrev pub WritesCount : CountForm → FindCall → Option (List ℕ) → Option (List ℕ) → Type 0
WritesCount form call old new =
    (tally : Tally) × IsTallyOf call.options call.goal call.seeds tally × Appends old new (count_text form tally)

-- some first bytes of such a text, nothing else, were written
abbrev pub WritesCountPart : CountForm → FindCall → Option (List ℕ) → Option (List ℕ) → Type 0
WritesCountPart form call old new =
    (tally : Tally) × IsTallyOf call.options call.goal call.seeds tally × WritesPart old new (count_text form tally)

-- what is told of a tally that has none, where the goal was given in these words
abbrev pub none_in : Tally → List ℕ → Option None_shown
none_in tally goal = if nat_lt 0 tally.shown then None else Some (record { seeds = tally.seeds; goal = goal })

-- none of the seeds' walks shows the goal
abbrev pub none_shown : FindCall → Option None_shown
none_shown call =
    if nat_lt 0 (length (hits_of call.options call.goal call.seeds)) then None
    else Some (record { seeds = call.seeds; goal = call.text })

-- memory or the board was short, or a write failed
abbrev pub IsCountFault : FindFault → Type 0
IsCountFault (Walk fault) = IsOfRun fault
IsCountFault (NotFound none) = ⊥
