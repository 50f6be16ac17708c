-- What a free run writes.
use Rattle.std.specs.Prelude.{◌≡◌, ◌≤◌, ℕ, List, [], ◌∷◌, ◌++◌, length, Option, ⊤}
use Rattle.std.specs.Io.KnownBytes.{Appends}
use Rattle.ct_model.specs.Rehearsal.{Rehearsal}
use Rattle.ct_program.specs.declared.free_options.FreeOptions.{FreeOptions}
use Rattle.ct_records.specs.declared.program_fault.ProgramFault.{ProgramFault}
use Rattle.ct_records.specs.declared.program_fault.ProgramFault.TheVariants.{Replay, Read, Reader, Write, Memory, Start, Exchanged}
use Rattle.ct_rehearse.specs.declared.run_fault.RunFault.{RunFault}
use Rattle.ct_rehearse.specs.declared.run_fault.RunFault.TheVariants as run
use Rattle.ct_rehearse.specs.declared.rehearsed.Rehearsed.{Rehearsed}
use Rattle.ct_rehearse.specs.Plans.{turns_made}
use Rattle.ct_records.specs.Outcome.{IsOutcome}
use Rattle.ct_records.specs.Replay.{IsAllowed}
use Rattle.ct_program.specs.Planning.{turns_of}
use Rattle.ct_streams.specs.Streams.{WritesPart}
use Rattle.ct_records.specs.Text.{record_text}

-- the record has the members, the bound and the cells that the options ask for; its steps are no more than the turns that they ask
-- for, each allowed where it stands, and are a run that ends in a safe state, which its report shows
pub record IsRunOf (o : FreeOptions) (w : Rehearsal) : Type 0 where
  pub members : w.setting.members ≡ o.members
  pub bound : w.setting.bound ≡ o.batch
  pub cells : w.cells ≡ o.cells
  pub steps : length w.steps ≤ turns_of o
  pub allowed : IsAllowed w
  pub outcome : IsOutcome w

-- all turns that the options ask for were made on a world without steps
pub record HasMade (o : FreeOptions) (done : Rehearsed) : Type 0 where
  pub turns : turns_made done.made ≡ turns_of o
  pub steps : length done.world.rehearsal.steps ≡ done.made.steps

-- the record of such a run, and a line feed
abbrev pub IsLineOfRun : FreeOptions → List ℕ → Type 0
IsLineOfRun o text = (w : Rehearsal) × IsRunOf o w × (text ≡ record_text w ++ 10 ∷ [])

-- such a line, nothing else, was written
abbrev pub WritesRun : FreeOptions → Option (List ℕ) → Option (List ℕ) → Type 0
WritesRun o old new = (w : Rehearsal) × IsRunOf o w × Appends old new (record_text w ++ 10 ∷ [])

-- some first bytes of such a line, nothing else, were written
abbrev pub WritesRunPart : FreeOptions → Option (List ℕ) → Option (List ℕ) → Type 0
WritesRunPart o old new = (w : Rehearsal) × IsRunOf o w × WritesPart old new (record_text w ++ 10 ∷ [])

-- the faults of a free run
abbrev pub IsFreeFault : ProgramFault → Type 0
IsFreeFault (Replay at refusal) = ⊥
IsFreeFault (Read fault) = ⊥
IsFreeFault Reader = ⊥
IsFreeFault Write = ⊤
IsFreeFault Memory = ⊤
IsFreeFault Start = ⊤
IsFreeFault Exchanged = ⊤

-- what a fault of a run of threads is for the program
abbrev pub of_run_fault : RunFault → ProgramFault
of_run_fault run.Memory = Memory
of_run_fault run.Start = Start
