-- What a step comes to, as C is told.
use Rattle.std.specs.Prelude.{◌≡◌, ◌⊎◌, ◌==◌, ℕ, ◌+◌, if◌then◌else◌, length, unwrap_or}
use Rattle.ct_names.specs.declared.refusal.Refusal.TheVariants.{OutOfMemory, Board}
use Rattle.ct_model.specs.declared.step.Step.{Step}
use Rattle.ct_model.specs.Rehearsal.{Rehearsal, state_of}
use Rattle.ct_model.specs.Cause.{cause}
use Rattle.ct_world.specs.Posting.{IsRefusedByBoard}
use Rattle.ct_embed.specs.RefusalNumbers.{refusal_number}

-- the serial of the first envelope that a step sends which sends so many; 0 where it sends none
abbrev pub IsFirst : Rehearsal → ℕ → ℕ → Type 0
IsFirst old first count = first ≡ (if count == 0 then 0 else length (state_of old).sent + 1)

-- why a step is not done, by number: its cause, or, where it has none, want of memory or the board
abbrev pub IsRefusalNumber : Rehearsal → Step → ℕ → Type 0
IsRefusalNumber w step n = (n ≡ refusal_number (unwrap_or (cause w step) OutOfMemory)) ⊎
    ((n ≡ refusal_number Board) × IsRefusedByBoard w step Board)
