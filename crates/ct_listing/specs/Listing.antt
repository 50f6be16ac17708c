-- The schedule of a record, by what the input says.
use Rattle.std.specs.Prelude.{◌≡◌, ℕ, List, Option, Result, Ok, IsOkAnd, ⊤}
use Rattle.std.specs.Io.KnownBytes.{Appends}
use Rattle.ct_model.specs.Rehearsal.{Rehearsal}
use Rattle.ct_streams.specs.Streams.{WritesPart}
use Rattle.ct_records.specs.declared.program_fault.ProgramFault.{ProgramFault}
use Rattle.ct_records.specs.declared.program_fault.ProgramFault.TheVariants.{Replay, Write, Memory}
use Rattle.ct_records.specs.declared.read_fault.ReadFault.{ReadFault}
use Rattle.ct_records.specs.Replay.{IsAllowed, IsRefused}
use Rattle.ct_records.specs.Script.{script}
use Rattle.ct_told.specs.declared.show_fault.ShowFault.{ShowFault}
use Rattle.ct_told.specs.declared.show_fault.ShowFault.TheVariants.{Program}
use Rattle.ct_told.specs.NoRecords.{IsUnread}
use Rattle.ct_judging.specs.Schedule.{schedule}

-- the steps of the record are allowed, and of this schedule the judge makes the same record
pub record IsScheduleOf (w : Rehearsal) (text : List ℕ) : Type 0 where
  pub allowed : IsAllowed w
  pub same : schedule text ≡ Ok w

-- a step of the record is refused, or memory was
abbrev pub IsRefusal : ProgramFault → Rehearsal → Type 0
IsRefusal (Replay at refusal) w = IsRefused w at refusal
IsRefusal Memory w = ⊤
IsRefusal _ w = ⊥

-- the input is a record whose steps are all allowed; a schedule of it, and nothing else, was written
abbrev pub WritesSchedule : Result Rehearsal ReadFault → Option (List ℕ) → Option (List ℕ) → Type 0
WritesSchedule read old new = IsOkAnd read (λ w. (text : List ℕ) × IsScheduleOf w text × Appends old new text)

-- the same, and some first bytes of such a schedule, and nothing else, were written
abbrev pub WritesScheduleInPart : Result Rehearsal ReadFault → Option (List ℕ) → Option (List ℕ) → Type 0
WritesScheduleInPart read old new = IsOkAnd read (λ w. (text : List ℕ) × IsScheduleOf w text × WritesPart old new text)

-- the input is no record, or one of its steps is refused. Of streams and of memory nothing is said
abbrev pub FailsOn : ShowFault → List ℕ → Type 0
FailsOn (Program (Replay at refusal)) input = IsOkAnd (script input) (λ w. IsRefused w at refusal)
FailsOn (Program Write) input = ⊤
FailsOn fault input = IsUnread fault input
