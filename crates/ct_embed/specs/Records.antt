-- What is answered of a record that a world is opened of.
use Rattle.std.specs.Prelude.{◌≡◌, ◌⊎◌, ℕ, Result, Ok, Err}
use Rattle.ct_names.specs.declared.refusal.Refusal.{Refusal}
use Rattle.ct_model.specs.Rehearsal.{Rehearsal}
use Rattle.ct_records.specs.declared.read_fault.ReadFault.{ReadFault}
use Rattle.ct_records.specs.declared.read_fault.ReadFault.TheVariants.{TooLong, NotJson, Shape, Version, OutOfMemory}
use Rattle.ct_world.specs.Replay.{IsFaultOf}
use Rattle.ct_embed.specs.declared.numbers.TheConstants.{NO_RECORD, OUT_OF_MEMORY}
use Rattle.ct_embed.specs.declared.opened.Opened.{Opened}
use Rattle.ct_embed.specs.RefusalNumbers.{refusal_number}

-- what the world is made of
abbrev pub opened : Rehearsal → Opened
opened w = record { at = 0; refusal = 0; bound = w.setting.bound; cells = w.cells; members = w.setting.members }

-- there is none, for this reason, at this step
abbrev pub not_opened : ℕ → ℕ → Opened
not_opened refusal at = record { at = at; refusal = refusal; bound = 0; cells = 0; members = 0 }

-- no record was read, for this reason: at the first step that is none, counted from 1; 0 where the whole is none
abbrev pub unread : ReadFault → Opened
unread TooLong = not_opened NO_RECORD 0
unread NotJson = not_opened NO_RECORD 0
unread (Shape at) = not_opened NO_RECORD at
unread Version = not_opened NO_RECORD 0
unread OutOfMemory = not_opened OUT_OF_MEMORY 0

-- each step of the record is allowed, but for this one, which is refused
pub record IsStopped (w : Rehearsal) (told : Opened) : Type 0 where
  pub refusal : Refusal
  pub is : told ≡ not_opened (refusal_number refusal) told.at
  pub fault : IsFaultOf w.setting w.cells w.steps told.at refusal

-- it is no record, or a step of it is refused
abbrev pub IsFault : Result Rehearsal ReadFault → Opened → Type 0
IsFault (Err fault) told = told ≡ unread fault
IsFault (Ok w) told = IsStopped w told

-- why there is none: that, or want of memory
abbrev pub IsUnopened : Result Rehearsal ReadFault → Opened → Type 0
IsUnopened read told = (told ≡ not_opened OUT_OF_MEMORY 0) ⊎ IsFault read told
