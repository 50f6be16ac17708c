-- What is said of the bytes that were read holds of the input.
use Rattle.ct_records.proofs.Common.{◌≡◌, ℕ, List, Option, Some, None, Result, Ok, Err, sym, ap, subst, ◌∙◌, arith, IfSome}
use Rattle.ct_records.proofs.Common.{IsOkAnd, Rehearsal, ProgramFault, IsBegun, IsReadOf, IsWholeOf, IsOutcome, IsReplayed, IsReportOf}
use Rattle.ct_records.proofs.Common.{IsFaultIn, report_text, script}
use Rattle.ct_streams.specs.Streams.{read_part}
use Rattle.ct_records.specs.declared.program_fault.ProgramFault.TheVariants.{Replay, Read, Memory, Start, Exchanged}
use Rattle.ct_records.proofs.Ended.{whole_says}
use Rattle.ct_records.proofs.Sources.{input_is}
use Rattle.ct_records.proofs.Whole.{script_part}

pub script_read : (bytes input : List ℕ) → bytes ≡ read_part input → script bytes ≡ script input
unfolding read_part
script_read bytes input e = ap script e ∙ script_part 67108865 input (omega arith)

-- the report of a world whose record was read
pub report_is : (w : Rehearsal) (text bytes : List ℕ) → IsBegun w → IsOutcome w → text ≡ report_text w → IsWholeOf bytes w →
    IsReportOf bytes text
report_is w text bytes h outcome is whole = rw (whole_says w bytes h.fit whole) (record { allowed = h.allowed; outcome = outcome }, is)

pub report_read : (left new : Option (List ℕ)) (w : Rehearsal) (text : List ℕ) → IsReadOf left new w →
    ((bytes : List ℕ) → IsWholeOf bytes w → IsReportOf bytes text) → IfSome left (λ input. IsReportOf input text)
report_read None new w text h says = tt
report_read (Some input) new w text h says =
    subst (λ t. IsReportOf t text) (sym (input_is (Some input) new h.bytes h.consumed h.end)) (says h.bytes h.whole)

fault_of : (fault : ProgramFault) (bytes input : List ℕ) → script bytes ≡ script input → IsFaultIn fault bytes → IsFaultIn fault input
fault_of (Replay at refusal) bytes input e h = rw (← e) h
fault_of (Read fault) bytes input e h = sym e ∙ h
fault_of Start bytes input e h = absurd h
fault_of Exchanged bytes input e h = absurd h
fault_of _ bytes input e h = tt

pub fault_in : (fault : ProgramFault) (left : Option (List ℕ)) (bytes : List ℕ) → IfSome left (λ input. script bytes ≡ script input) →
    IsFaultIn fault bytes → IfSome left (IsFaultIn fault)
fault_in fault None bytes same h = tt
fault_in fault (Some input) bytes same h = fault_of fault bytes input same h

pub report_in : (left : Option (List ℕ)) (bytes text : List ℕ) → IfSome left (λ input. script bytes ≡ script input) →
    IsReportOf bytes text → IfSome left (λ input. IsReportOf input text)
report_in None bytes text same h = tt
report_in (Some input) bytes text same h = rw (← same) h

ok_weaker : {T E : Type 0} (r : Result T E) (P Q : T → Type 0) → ((x : T) → P x → Q x) → IsOkAnd r P → IsOkAnd r Q
ok_weaker (Ok x) P Q f h = f x h
ok_weaker (Err e) P Q f h = h

-- what holds of the text holds of the report
pub told : (left : Option (List ℕ)) (text out : List ℕ) (P : List ℕ → Type 0) → IfSome left (λ input. IsReportOf input text) →
    out ≡ text → P out → IfSome left (λ input. IsOkAnd (script input) (λ w. IsReplayed w × P (report_text w)))
told None text out P h e holds = tt
told (Some input) text out P h e holds =
    ok_weaker (script input) (λ w. IsReplayed w × (text ≡ report_text w)) (λ w. IsReplayed w × P (report_text w))
    (λ w both. (both.0, subst P (e ∙ both.1) holds)) h

-- a fault of memory says nothing of the input
pub memory_in : (left : Option (List ℕ)) (fault : ProgramFault) → fault ≡ Memory → IfSome left (IsFaultIn fault)
memory_in None fault is = tt
memory_in (Some input) fault is = rw is tt
