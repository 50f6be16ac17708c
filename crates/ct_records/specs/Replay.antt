-- What a replay answers to its input.
use Rattle.std.specs.Prelude.{◌≡◌, ◌≢◌, ◌≤◌, ◌-◌, ℕ, List, Option, length, Err, ⊤, IsOkAnd}
use Rattle.std.specs.Io.KnownBytes.{Appends}
use Rattle.ct_names.specs.declared.refusal.Refusal.{Refusal}
use Rattle.ct_names.specs.declared.refusal.Refusal.TheVariants.{OutOfMemory}
use Rattle.ct_model.specs.Lawful.{EachWasAllowed}
use Rattle.ct_model.specs.Rehearsal.{Rehearsal}
use Rattle.ct_world.specs.Replay.{IsRefusedAt}
use Rattle.ct_records.specs.declared.program_fault.ProgramFault.{ProgramFault}
use Rattle.ct_records.specs.declared.program_fault.ProgramFault.TheVariants.{Replay, Read, Reader, Write, Memory, Start, Exchanged}
use Rattle.ct_records.specs.Script.{script}
use Rattle.ct_records.specs.Outcome.{IsOutcome}
use Rattle.ct_records.specs.Report.{report_text}
use Rattle.ct_streams.specs.Streams.{WritesPart}

-- each step of the record is allowed after those before it
abbrev pub IsAllowed : Rehearsal → Type 0
IsAllowed w = EachWasAllowed w

-- step `at`, counted from 1, is refused, but not for want of memory, and each before it is allowed
pub record IsRefused (w : Rehearsal) (at : ℕ) (refusal : Refusal) : Type 0 where
  pub counted : 1 ≤ at
  pub refused : IsRefusedAt w.setting w.cells w.steps (at - 1) refusal
  pub not_memory : refusal ≢ OutOfMemory

-- the record's steps are all allowed; so they are a run, which ends in a safe state
pub record IsReplayed (w : Rehearsal) : Type 0 where
  pub allowed : IsAllowed w
  pub outcome : IsOutcome w

-- the input is a record that is replayed, and this is its report
abbrev pub IsReportOf : List ℕ → List ℕ → Type 0
IsReportOf input text = IsOkAnd (script input) (λ w. IsReplayed w × (text ≡ report_text w))

-- the input is a record that is replayed, and its report, nothing else, was written
abbrev pub WritesReport : List ℕ → Option (List ℕ) → Option (List ℕ) → Type 0
WritesReport input old new = IsOkAnd (script input) (λ w. IsReplayed w × Appends old new (report_text w))

-- the input is a record that is replayed, and some first bytes of its report, nothing else, were written
abbrev pub WritesReportPart : List ℕ → Option (List ℕ) → Option (List ℕ) → Type 0
WritesReportPart input old new = IsOkAnd (script input) (λ w. IsReplayed w × WritesPart old new (report_text w))

-- the fault is the input's: the first of the record, or of its replay. Of streams and of memory nothing is said, and
-- a replay has no faults of free runs
abbrev pub IsFaultIn : ProgramFault → List ℕ → Type 0
IsFaultIn (Replay at refusal) input = IsOkAnd (script input) (λ w. IsRefused w at refusal)
IsFaultIn (Read fault) input = script input ≡ Err fault
IsFaultIn Reader input = ⊤
IsFaultIn Write input = ⊤
IsFaultIn Memory input = ⊤
IsFaultIn Start input = ⊥
IsFaultIn Exchanged input = ⊥
