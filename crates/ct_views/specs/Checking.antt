-- What checking files comes to, and what is written of it.
use Rattle.std.specs.Prelude.{◌≡◌, ◌≢◌, ℕ, ◌-◌, Bool, true, false, if◌then◌else◌, List, [], ◌∷◌, ◌++◌, length, take, drop}
use Rattle.std.specs.Prelude.{fold, max, codes, Option, IfSome, IsOkAnd, ⊤}
use Rattle.std.specs.Io.KnownBytes.{Appends}
use Rattle.std.specs.List.{concat}
use Rattle.std.specs.Str.{bytes_eq}
use Rattle.ct_model.specs.Rehearsal.{Rehearsal}
use Rattle.ct_records.specs.declared.program_fault.ProgramFault.TheVariants.{Read, Write, Memory}
use Rattle.ct_streams.specs.declared.status.Status.TheVariants as status
use Rattle.ct_streams.specs.Statuses.{code}
use Rattle.ct_streams.specs.FileFaults as file
use Rattle.ct_records.specs.Replay.{IsFaultIn, IsReplayed}
use Rattle.ct_streams.specs.Streams.{read_part, WritesPart}
use Rattle.ct_records.specs.Report.{report_text}
use Rattle.ct_records.specs.Script.{script}
use Rattle.ct_told.specs.Faults as showing
use Rattle.ct_told.specs.NoRecords.{IsToldOf}
use Rattle.ct_told.specs.declared.show_fault.ShowFault.{ShowFault}
use Rattle.ct_told.specs.declared.show_fault.ShowFault.TheVariants.{NoMember, TooManySteps, Unread, Program}
use Rattle.ct_views.specs.declared.check_options.CheckOptions.{CheckOptions}
use Rattle.ct_views.specs.declared.checked.Checked.{Checked}
use Rattle.ct_views.specs.declared.checked.Checked.TheVariants.{Good, OtherReport, NoReport, NoFile, Fault}

-- ---- one file

-- the name ends with `.json`
abbrev pub is_json : List ℕ → Bool
is_json name = bytes_eq (drop (length name - 5) name) (codes ".json")

-- the name of the report beside a record: `.report` in place of `.json` at its end, or after it
unfoldable pub report_name : List ℕ → List ℕ
report_name name = (if is_json name then take (length name - 5) name else name) ++ codes ".report"

-- what is known of each file: the bytes of the one of this name
abbrev pub Known : Type 0
Known = List ℕ → Option (List ℕ)

-- the report in the file, where its bytes are known, is the record's
abbrev pub HasReport : Option (List ℕ) → Rehearsal → Type 0
HasReport known w = IfSome known (λ report. report_text w ≡ read_part report)

-- it is another one
abbrev pub HasOther : Option (List ℕ) → Rehearsal → Type 0
HasOther known w = IfSome known (λ report. report_text w ≢ read_part report)

-- the record is the expected one, where one is expected
abbrev pub Meets : Bool → Option (List ℕ) → Rehearsal → Type 0
Meets false known w = ⊤
Meets true known w = HasReport known w

-- the fault is that of the input: it is no record, or a step of the record is refused. Of reading and of memory nothing is said
abbrev pub IsFaultOf : ShowFault → List ℕ → Type 0
IsFaultOf (NoMember member members) input = ⊥
IsFaultOf (TooManySteps steps) input = ⊥
IsFaultOf (Unread told) input = IsToldOf told (read_part input)
IsFaultOf (Program (Read fault)) input = ⊥
IsFaultOf (Program Write) input = ⊥
IsFaultOf (Program fault) input = IsFaultIn fault input

-- this is what checking the file of this name comes to. A fault of the record comes before any of its report
abbrev pub IsChecked : Known → Bool → List ℕ → Checked → Type 0
IsChecked bytes expects name Good =
    IfSome (bytes name) (λ input. IsOkAnd (script input) (λ w. IsReplayed w × Meets expects (bytes (report_name name)) w))
IsChecked bytes expects name OtherReport = (expects ≡ true)
    × IfSome (bytes name) (λ input. IsOkAnd (script input) (λ w. IsReplayed w × HasOther (bytes (report_name name)) w))
IsChecked bytes expects name (NoReport _) = (expects ≡ true) × IfSome (bytes name) (λ input. IsOkAnd (script input) IsReplayed)
IsChecked bytes expects name (NoFile fault) = ⊤
IsChecked bytes expects name (Fault fault) = IfSome (bytes name) (IsFaultOf fault)

-- what comparing a report with the one in the file beside it comes to
abbrev pub IsBeside : Option (List ℕ) → List ℕ → Checked → Type 0
IsBeside known report Good = IfSome known (λ expected. report ≡ read_part expected)
IsBeside known report OtherReport = IfSome known (λ expected. report ≢ read_part expected)
IsBeside known report (NoReport fault) = ⊤
IsBeside known report (NoFile fault) = ⊥
IsBeside known report (Fault fault) = fault ≡ Program Memory

-- the status that it stands for
abbrev pub status_of : Checked → ℕ
status_of Good = code status.Done
status_of OtherReport = code status.Refused
status_of (NoReport fault) = code status.Stream
status_of (NoFile fault) = code status.Stream
status_of (Fault fault) = showing.status_of fault

-- ---- its line

-- what the line says: a name, and what there is to tell of it
abbrev pub told : List ℕ → List ℕ → List ℕ
told name text = concat (name ∷ codes ": " ∷ text ∷ codes "\n" ∷ [])

-- the line of the file, which a good one has not
abbrev pub checked_text : List ℕ → Checked → List ℕ
checked_text name Good = []
checked_text name OtherReport = told name (codes "another report")
checked_text name (NoReport fault) = told (report_name name) (file.fault_text fault)
checked_text name (NoFile fault) = told name (file.fault_text fault)
checked_text name (Fault fault) = told name (showing.fault_text fault)

-- what is written of it
abbrev pub line_of : Bool → List ℕ → Checked → List ℕ
line_of true name checked = []
line_of false name checked = checked_text name checked

-- ---- all files

-- each of the files, in order, has one of these outcomes
abbrev pub AreChecked : Known → Bool → List (List ℕ) → List Checked → Type 0
AreChecked bytes expects [] [] = ⊤
AreChecked bytes expects [] (checked ∷ more) = ⊥
AreChecked bytes expects (name ∷ names) [] = ⊥
AreChecked bytes expects (name ∷ names) (checked ∷ more) = IsChecked bytes expects name checked × AreChecked bytes expects names more

-- what is written of them
abbrev pub lines_of : Bool → List (List ℕ) → List Checked → List ℕ
lines_of quiet [] outcomes = []
lines_of quiet (name ∷ names) [] = []
lines_of quiet (name ∷ names) (checked ∷ more) = line_of quiet name checked ++ lines_of quiet names more

-- the largest of their statuses
abbrev pub worst_of : List Checked → ℕ
worst_of outcomes = fold (λ worst checked. max worst (status_of checked)) 0 outcomes

-- the files were checked: their lines, and nothing else, were written, and this is the largest of their statuses
pub record Checks (bytes : Known) (options : CheckOptions) (names : List (List ℕ)) (old new : Option (List ℕ)) (status : ℕ)
    : Type 0 where
  pub outcomes : List Checked
  pub each : AreChecked bytes options.expects names outcomes
  pub lines : Appends old new (lines_of options.quiet names outcomes)
  pub worst : status ≡ worst_of outcomes

-- some first ones were checked, and some first bytes of their lines, and nothing else, were written
pub record ChecksPart (bytes : Known) (options : CheckOptions) (names : List (List ℕ)) (old new : Option (List ℕ)) : Type 0 where
  pub count : ℕ
  pub outcomes : List Checked
  pub each : AreChecked bytes options.expects (take count names) outcomes
  pub lines : WritesPart old new (lines_of options.quiet (take count names) outcomes)

-- the same of one file
abbrev pub ChecksOne : Known → CheckOptions → List ℕ → Option (List ℕ) → Option (List ℕ) → ℕ → Type 0
ChecksOne bytes options name old new status =
    (checked : Checked) × IsChecked bytes options.expects name checked × (status ≡ status_of checked)
    × Appends old new (line_of options.quiet name checked)

abbrev pub ChecksOnePart : Known → CheckOptions → List ℕ → Option (List ℕ) → Option (List ℕ) → Type 0
ChecksOnePart bytes options name old new =
    (checked : Checked) × IsChecked bytes options.expects name checked × WritesPart old new (line_of options.quiet name checked)
