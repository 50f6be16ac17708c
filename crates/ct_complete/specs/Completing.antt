-- The end of a run, by what the input says.
use Rattle.std.specs.Prelude.{◌≡◌, ⊤, ℕ, List, [], ◌∷◌, ◌++◌, Option, Some, Result, Ok, IsOkAnd, string_bytes}
use Rattle.std.specs.Io.KnownBytes.{Appends}
use Rattle.ct_model.specs.Rehearsal.{Rehearsal}
use Rattle.ct_streams.specs.Streams.{WritesPart}
use Rattle.ct_records.specs.declared.read_fault.ReadFault.{ReadFault}
use Rattle.ct_records.specs.Replay.{IsAllowed}
use Rattle.ct_records.specs.Script.{script}
use Rattle.ct_records.specs.Text.{record_text}
use Rattle.ct_told.specs.declared.show_fault.ShowFault.TheVariants.{Program}
use Rattle.ct_play.specs.Goals.{uncut}
use Rattle.ct_play.specs.Played.{Played}
use Rattle.ct_play.specs.Playing.{played}
use Rattle.ct_settled.specs.Completing.{completion}
use Rattle.ct_settled.specs.Hindrance.{hindrance}
use Rattle.ct_settled.specs.Settled.{AreDone}
use Rattle.ct_judging.specs.Hindering.{hindrance_text}
use Rattle.ct_listing.specs.Listing as listing
use Rattle.ct_listing.specs.Listing.{IsRefusal}
use Rattle.ct_complete.specs.declared.complete_fault.CompleteFault.{CompleteFault}
use Rattle.ct_complete.specs.declared.complete_fault.CompleteFault.TheVariants.{Hindered, Board, Show}
use Rattle.ct_complete.specs.declared.obstacle.Obstacle.{Obstacle}

-- the steps of the record are allowed, turns lead from there to another in which all is done, and this is the text of that
pub record IsCompleted (w : Rehearsal) (text : List ℕ) : Type 0 where
  pub allowed : IsAllowed w
  pub end : Played
  pub turned : played (uncut w) (completion (uncut w)) ≡ Ok end
  pub done : AreDone end
  pub is : text ≡ record_text end.rehearsal ++ 10 ∷ []

-- turns lead from there to another in which this stands in the way, and this is its text
pub record IsHindered (w : Rehearsal) (obstacle : Obstacle) : Type 0 where
  pub allowed : IsAllowed w
  pub end : Played
  pub turned : played (uncut w) (completion (uncut w)) ≡ Ok end
  pub stands : hindrance end ≡ Some obstacle.hindrance
  pub is : string_bytes obstacle.text ≡ hindrance_text end.rehearsal obstacle.hindrance

-- something stands in the way, a step of the record is refused, or memory was. Of the board nothing is said
abbrev pub IsFaultOn : Rehearsal → CompleteFault → Type 0
IsFaultOn w (Hindered obstacle) = IsHindered w obstacle
IsFaultOn w Board = ⊤
IsFaultOn w (Show (Program fault)) = IsRefusal fault w
IsFaultOn w (Show _) = ⊥

-- ---- of the input

-- the input is a record; a completed one, and nothing else, was written
abbrev pub WritesCompleted : Result Rehearsal ReadFault → Option (List ℕ) → Option (List ℕ) → Type 0
WritesCompleted read old new = IsOkAnd read (λ w. (text : List ℕ) × IsCompleted w text × Appends old new text)

-- the same, and some first bytes of it, and nothing else, were written
abbrev pub WritesCompletedInPart : Result Rehearsal ReadFault → Option (List ℕ) → Option (List ℕ) → Type 0
WritesCompletedInPart read old new = IsOkAnd read (λ w. (text : List ℕ) × IsCompleted w text × WritesPart old new text)

-- the input is no record, one of its steps is refused, or it isn't completed. Of streams, of memory and of the board nothing is said
abbrev pub FailsOn : CompleteFault → List ℕ → Type 0
FailsOn (Hindered obstacle) input = IsOkAnd (script input) (λ w. IsHindered w obstacle)
FailsOn Board input = ⊤
FailsOn (Show fault) input = listing.FailsOn fault input
