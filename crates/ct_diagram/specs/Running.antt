-- What is drawn, by what the input says.
use Rattle.std.specs.Prelude.{◌≡◌, ◌≤◌, ℕ, List, Option, Some, Result, IsOkAnd, ⊤}
use Rattle.std.specs.Io.KnownBytes.{Appends}
use Rattle.ct_model.specs.Rehearsal.{Rehearsal}
use Rattle.ct_records.specs.declared.program_fault.ProgramFault.TheVariants.{Reader, Write, Memory}
use Rattle.ct_records.specs.declared.read_fault.ReadFault.{ReadFault}
use Rattle.ct_records.specs.Replay.{IsAllowed}
use Rattle.ct_records.specs.Script.{script}
use Rattle.ct_streams.specs.Streams.{WritesPart, read_part}
use Rattle.ct_told.specs.NoRecords.{IsToldOf}
use Rattle.ct_told.specs.declared.show_fault.ShowFault.{ShowFault}
use Rattle.ct_told.specs.declared.show_fault.ShowFault.TheVariants.{NoMember, Unread, Program}
use Rattle.ct_diagram.specs.declared.window.TheConstants.{MOST_STEPS}
use Rattle.ct_diagram.specs.declared.window.Window.{Window}
use Rattle.ct_diagram.specs.Diagram.{diagram_text, FailsWith}
use Rattle.ct_diagram.specs.Window.{lacking, part_of, steps_in}

-- the input is a record whose steps up to the window's last one are allowed, and as many of them as a diagram can have are the
-- window's; their diagram, and nothing else, was written
abbrev pub Draws : Window → Result Rehearsal ReadFault → Option (List ℕ) → Option (List ℕ) → Type 0
Draws window read old new = IsOkAnd read (λ w.
    IsAllowed (part_of window w) × (steps_in window (part_of window w).steps ≤ MOST_STEPS)
    × Appends old new (diagram_text window (part_of window w)))

-- the same record, and some first bytes of the diagram, and nothing else, were written
abbrev pub DrawsPart : Window → Result Rehearsal ReadFault → Option (List ℕ) → Option (List ℕ) → Type 0
DrawsPart window read old new = IsOkAnd read (λ w.
    IsAllowed (part_of window w) × (steps_in window (part_of window w).steps ≤ MOST_STEPS)
    × WritesPart old new (diagram_text window (part_of window w)))

-- this is the first member that is asked for and that the group lacks, which has so many
abbrev pub Lacks : Window → ℕ → ℕ → Rehearsal → Type 0
Lacks window member members w = (lacking window w ≡ Some member) × (members ≡ w.setting.members)

-- the input is no record, or the record's group lacks a member that is asked for, or the fault is that of drawing the record. Of streams
-- and of memory nothing is said
abbrev pub FailsOn : Window → ShowFault → List ℕ → Type 0
FailsOn window (NoMember member members) input = IsOkAnd (script input) (Lacks window member members)
FailsOn window (Unread told) input = IsToldOf told (read_part input)
FailsOn window (Program Reader) input = ⊤
FailsOn window (Program Write) input = ⊤
FailsOn window (Program Memory) input = ⊤
FailsOn window fault input = IsOkAnd (script input) (λ w. FailsWith window fault w)
