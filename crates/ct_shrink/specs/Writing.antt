-- What is written of runs that were made smaller.
use Rattle.std.specs.Prelude.{◌≡◌, ◌≤◌, ⊤, ℕ, All, Bool, true, false, List, Option, Some, None, length, Result, IsOkAnd}
use Rattle.std.specs.Io.KnownBytes.{Appends}
use Rattle.ct_model.specs.Rehearsal.{Rehearsal}
use Rattle.ct_world.specs.Setup.{record_of}
use Rattle.ct_world.specs.declared.setup.Setup.{Setup}
use Rattle.ct_streams.specs.Streams.{WritesPart}
use Rattle.ct_records.specs.declared.read_fault.ReadFault.{ReadFault}
use Rattle.ct_records.specs.Replay.{IsAllowed}
use Rattle.ct_records.specs.Script.{script}
use Rattle.ct_grammar.specs.declared.goal.Goal.{Goal}
use Rattle.ct_listing.specs.Listing as listing
use Rattle.ct_listing.specs.Listing.{IsRefusal}
use Rattle.ct_play.specs.Played.{Played}
use Rattle.ct_told.specs.declared.show_fault.ShowFault.TheVariants.{Program}
use Rattle.ct_play.specs.Strangers.{stranger}
use Rattle.ct_shrink.specs.Naming.{IsByContent}
use Rattle.ct_shrink.specs.Runs.{IsNeverShown, IsNoLarger, IsRunOf}
use Rattle.ct_shrink.specs.Texts.{IsTextOf}
use Rattle.ct_shrink.specs.Trials.{IsLeast}
use Rattle.ct_shrink.specs.declared.line.Line.{Line}
use Rattle.ct_shrink.specs.declared.options.ShrinkOptions.{ShrinkOptions}
use Rattle.ct_shrink.specs.declared.shrink_fault.ShrinkFault.{ShrinkFault}
use Rattle.ct_shrink.specs.declared.shrink_fault.ShrinkFault.TheVariants.{NoMember, NotShown, Board, Show}
use Rattle.ct_shrink.specs.declared.summary.Summary.{Summary}

-- of the record this run is left: it shows the goal, with no more steps than the first beginning of the record that does, and, unless no
-- more trials might be made, the trial without any one of its lines fails, which name envelopes by what they carry
pub record IsLeft (test : Played → Bool) (tries : ℕ) (w : Rehearsal) (told : Summary) (left : Rehearsal) : Type 0 where
  pub setup : Setup
  pub same : record_of setup w.steps ≡ w
  pub allowed : IsAllowed w
  pub lines : List Line
  pub run : IsRunOf test setup lines left
  pub named : All IsByContent lines
  pub no_larger : IsNoLarger test setup w.steps (length left.steps)
  pub least : told.is_stopped ≡ false → IsLeast test setup lines
  pub stopped : told.is_stopped ≡ true → told.trials ≡ tries
  pub few : told.trials ≤ tries
  pub steps : told.steps ≡ length w.steps
  pub count : told.left ≡ length left.steps

-- the text is such a run
pub record IsSmallerText (test : Played → Bool) (goal : Goal) (o : ShrinkOptions) (w : Rehearsal) (told : Summary) (text : List ℕ)
    : Type 0 where
  pub run : Rehearsal
  pub left : IsLeft test o.tries w told run
  pub written : IsTextOf o.form run goal text

-- the group of the record has the members that the goal names
abbrev pub KnowsMembers : Goal → Rehearsal → Type 0
KnowsMembers goal w = stranger w.setting.members goal ≡ None

-- the input is a record; a smaller run, and nothing else, was written
abbrev pub WritesSmaller : (Played → Bool) → Goal → ShrinkOptions → Result Rehearsal ReadFault → Summary → Option (List ℕ) →
    Option (List ℕ) → Type 0
WritesSmaller test goal o read told old new =
    IsOkAnd read (λ w. KnowsMembers goal w × (text : List ℕ) × IsSmallerText test goal o w told text × Appends old new text)

-- the same, and some first bytes of it, and nothing else, were written
abbrev pub WritesSmallerInPart : (Played → Bool) → Goal → ShrinkOptions → Result Rehearsal ReadFault → Option (List ℕ) →
    Option (List ℕ) → Type 0
WritesSmallerInPart test goal o read old new = IsOkAnd read (λ w.
    KnowsMembers goal w × (told : Summary) × (text : List ℕ) × IsSmallerText test goal o w told text × WritesPart old new text)

-- the record never shows the goal
abbrev pub IsHidden : (Played → Bool) → Rehearsal → Type 0
IsHidden test w = (setup : Setup) × (record_of setup w.steps ≡ w) × IsNeverShown test setup w.steps

-- it never does, a step of it is refused, or memory was. Of the board nothing is said
abbrev pub IsFaultOn : (Played → Bool) → Rehearsal → ShrinkFault → Type 0
IsFaultOn test w (NoMember member members) = ⊥
IsFaultOn test w NotShown = IsHidden test w
IsFaultOn test w Board = ⊤
IsFaultOn test w (Show (Program fault)) = IsRefusal fault w
IsFaultOn test w (Show _) = ⊥

-- this is the first member that the goal names and that the group of the record, which has so many, hasn't
abbrev pub IsStranger : Goal → ℕ → ℕ → Rehearsal → Type 0
IsStranger goal member members w = (members ≡ w.setting.members) × (stranger w.setting.members goal ≡ Some member)

-- the input is no record, the goal names a member that its group hasn't, one of its steps is refused, or it never shows the goal. Of
-- streams, of memory and of the board nothing is said
abbrev pub FailsOn : (Played → Bool) → Goal → ShrinkFault → List ℕ → Type 0
FailsOn test goal (NoMember member members) input = IsOkAnd (script input) (IsStranger goal member members)
FailsOn test goal NotShown input = IsOkAnd (script input) (λ w. KnowsMembers goal w × IsHidden test w)
FailsOn test goal Board input = ⊤
FailsOn test goal (Show fault) input = listing.FailsOn fault input
