-- What a view of a record shows.
use Rattle.std.specs.Prelude.{◌≡◌, ℕ, ◌-◌, List, [], ◌++◌, length, nat_lt, Option, Some, None, Result, slice_get}
use Rattle.std.specs.Prelude.{IsOkAnd, if◌then◌else◌, ⊤}
use Rattle.std.specs.Io.KnownBytes.{Appends}
use Rattle.ct_names.specs.declared.refusal.Refusal.{Refusal}
use Rattle.ct_model.specs.declared.step.Step.{Step}
use Rattle.ct_model.specs.Rehearsal.{Rehearsal}
use Rattle.ct_model.specs.Senders.{senders}
use Rattle.ct_world.specs.declared.replay_fault.ReplayFault.{ReplayFault}
use Rattle.ct_world.specs.Replay.{first_steps}
use Rattle.ct_records.specs.declared.program_fault.ProgramFault.{ProgramFault}
use Rattle.ct_records.specs.declared.program_fault.ProgramFault.TheVariants.{Replay, Read, Write, Start, Exchanged}
use Rattle.ct_records.specs.declared.read_fault.ReadFault.{ReadFault}
use Rattle.ct_records.specs.Replay.{IsAllowed, IsRefused}
use Rattle.ct_streams.specs.Streams.{read_part, WritesPart}
use Rattle.ct_records.specs.Script.{script}
use Rattle.ct_views.specs.declared.form.Form.{Form}
use Rattle.ct_views.specs.declared.form.Form.TheVariants.{Text, Json}
use Rattle.ct_views.specs.declared.selection.Selection.{Selection}
use Rattle.ct_told.specs.declared.show_fault.ShowFault.{ShowFault}
use Rattle.ct_told.specs.declared.show_fault.ShowFault.TheVariants.{NoMember, TooManySteps, Unread, Program}
use Rattle.ct_views.specs.declared.view.View.{View}
use Rattle.ct_views.specs.declared.view.View.TheVariants.{Report, Steps, State}
use Rattle.ct_show.specs.Facts.{refused_text}
use Rattle.ct_json.specs.Json.{report_json}
use Rattle.ct_json.specs.JsonState.{state_json}
use Rattle.ct_json.specs.JsonSteps.{refused_json}
use Rattle.ct_views.specs.Selected.{first_lines}
use Rattle.ct_told.specs.NoRecords.{IsToldOf}
use Rattle.ct_show.specs.State.{state_lines}

-- the lines of the first steps of a record
abbrev pub lines_to : Selection → Form → Rehearsal → ℕ → List ℕ
lines_to selection form w k = first_lines selection form w.setting w.cells w.steps k

-- the line of the step at a place, counted from 0, where it is refused
abbrev pub refused_in : Form → Rehearsal → ℕ → Step → Refusal → List ℕ
refused_in Text w number step refusal = refused_text w number step refusal
refused_in Json w number step refusal = refused_json w number step refusal

abbrev pub refused_line : Form → Rehearsal → ℕ → Option Step → Refusal → List ℕ
refused_line form w number None refusal = []
refused_line form w number (Some step) refusal = refused_in form w number step refusal

-- the state that a record leads to, with these senders of the envelopes
abbrev pub state_in : Form → Rehearsal → List ℕ → List ℕ
state_in Text w from = state_lines w from
state_in Json w from = state_json w from

-- the record as far as the view looks at it
abbrev pub part_of : View → Rehearsal → Rehearsal
part_of (State count form) w = first_steps w.setting w.cells w.steps count
part_of _ w = w

-- what is shown of a record whose steps are all allowed
abbrev pub shown_text : View → Rehearsal → List ℕ
shown_text Report w = report_json w
shown_text (Steps selection form) w = lines_to selection form w (length w.steps)
shown_text (State count form) w = state_in form w (senders w.setting w.steps)

-- what is shown of one whose step of this number is refused: no report and no state; of steps the lines before that step, and its own
abbrev pub refused_shown : View → Rehearsal → ℕ → Refusal → List ℕ
refused_shown Report w number refusal = []
refused_shown (Steps selection form) w number refusal =
    lines_to selection form w (number - 1)
    ++ refused_line form (first_steps w.setting w.cells w.steps (number - 1)) number (slice_get w.steps (number - 1)) refusal
refused_shown (State count form) w number refusal = []

-- this text is shown of a part that is looked at, and with it the first refused step, if there is one
abbrev pub IsShown : View → Rehearsal → List ℕ → Option ReplayFault → Type 0
IsShown view w text None = IsAllowed w × (text ≡ shown_text view w)
IsShown view w text (Some fault) =
    IsRefused w fault.at fault.refusal × (text ≡ refused_shown view w fault.at fault.refusal)

-- this is shown of the record
abbrev pub IsAnswer : View → Rehearsal → List ℕ → Option ReplayFault → Type 0
IsAnswer view w text refused = IsShown view (part_of view w) text refused

-- ---- what was written, by what the input says

abbrev pub Shows : View → Result Rehearsal ReadFault → Option (List ℕ) → Option (List ℕ) → Type 0
Shows view read old new = IsOkAnd read (λ w. IsAllowed (part_of view w) × Appends old new (shown_text view (part_of view w)))

-- some first bytes of what is shown of the record, or of its steps up to a refused one, and nothing else, were written
abbrev pub ShowsPart : View → Result Rehearsal ReadFault → Option (List ℕ) → Option (List ℕ) → Type 0
ShowsPart view read old new = IsOkAnd read (λ w.
    (text : List ℕ) × (refused : Option ReplayFault) × IsAnswer view w text refused × WritesPart old new text)

-- with this fault: at a refused step all that is shown of it was written
abbrev pub FailsWith : View → ProgramFault → Result Rehearsal ReadFault → Option (List ℕ) → Option (List ℕ) → Type 0
FailsWith view (Replay at refusal) read old new =
    IsOkAnd read (λ w. IsRefused (part_of view w) at refusal × Appends old new (refused_shown view (part_of view w) at refusal))
FailsWith view (Read fault) read old new = ⊥
FailsWith view Start read old new = ⊥
FailsWith view Exchanged read old new = ⊥
FailsWith view _ read old new = ⊤

-- the member whose steps are asked for, where they are one's
abbrev pub member_of : View → Option ℕ
member_of (Steps selection form) = selection.member
member_of _ = None

-- that member, where the record's group lacks it
abbrev pub missing_of : ℕ → Option ℕ → Option ℕ
missing_of members None = None
missing_of members (Some member) = if nat_lt members member then Some member else None

abbrev pub lacking : View → Rehearsal → Option ℕ
lacking view w = missing_of w.setting.members (member_of view)

-- the group lacks this member and has so many
abbrev pub Lacks : View → ℕ → ℕ → Rehearsal → Type 0
Lacks view member members w = (lacking view w ≡ Some member) × (members ≡ w.setting.members)

-- the input is no record, or its group lacks the member that is asked for; else the fault is of its steps, of a stream or of memory
abbrev pub FailsOn : View → ShowFault → List ℕ → Option (List ℕ) → Option (List ℕ) → Type 0
FailsOn view (NoMember member members) input old new = IsOkAnd (script input) (Lacks view member members)
FailsOn view (TooManySteps steps) input old new = ⊥
FailsOn view (Unread told) input old new = IsToldOf told (read_part input)
FailsOn view (Program fault) input old new = FailsWith view fault (script input) old new

-- a fault that comes before anything is written
abbrev pub IsQuiet : ShowFault → Type 0
IsQuiet (NoMember member members) = ⊤
IsQuiet (TooManySteps steps) = ⊤
IsQuiet (Unread told) = ⊤
IsQuiet (Program (Replay at refusal)) = ⊥
IsQuiet (Program Write) = ⊥
IsQuiet (Program _) = ⊤
