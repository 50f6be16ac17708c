-- What is said of the bytes that were read holds of the input.
use Rattle.std.proofs.Common.{◌≡◌, ℕ, List, Option, Some, None, Result, Ok, Err, sym, ◌∙◌, ap, subst}
use Rattle.std.specs.Prelude.{IfErr, IfSome, IsErrAnd, IsOkAnd}
use Rattle.std.proofs.lemmas.Option.{IfSome_then}
use Rattle.ct_model.specs.Rehearsal.{Rehearsal}
use Rattle.ct_records.specs.declared.program_fault.ProgramFault.TheVariants as of
use Rattle.ct_records.specs.declared.read_fault.ReadFault.{ReadFault}
use Rattle.ct_records.specs.Script.{script}
use Rattle.ct_records.proofs.Answered.{script_read}
use Rattle.ct_streams.specs.Streams.{read_part}
use Rattle.ct_told.specs.NoRecords.{IsToldAs, IsToldOf, IsUnread}
use Rattle.ct_told.specs.declared.show_fault.ShowFault.{ShowFault}
use Rattle.ct_told.specs.declared.show_fault.ShowFault.TheVariants.{Unread, Program}

pub read_seen : (left : Option (List ℕ)) (bytes seen : List ℕ) (w : Rehearsal) → IfSome left (λ input. bytes ≡ read_part input) →
    seen ≡ bytes → script seen ≡ Ok w → IfSome left (λ input. script input ≡ Ok w)
read_seen None bytes seen w read same is = tt
read_seen (Some input) bytes seen w read same is = sym (ap script same ∙ script_read bytes input read) ∙ is

pub told_seen : (left : Option (List ℕ)) (bytes seen told : List ℕ) (fault : ReadFault) → IfSome left (λ input. bytes ≡ read_part input) →
    seen ≡ bytes → script seen ≡ Err fault → IsToldAs told fault seen → IfSome left (IsUnread (Unread told))
told_seen None bytes seen told fault read same is h = tt
told_seen (Some input) bytes seen told fault read same is h =
    subst (λ b. IsErrAnd (script b) (λ f. IsToldAs told f b)) (same ∙ read) (rw is h)

-- what holds of the record that was read holds of the input
pub record_seen : (left : Option (List ℕ)) (w : Rehearsal) (P : Rehearsal → Type 0) → IfSome left (λ input. script input ≡ Ok w) → P w →
    IfSome left (λ input. IsOkAnd (script input) P)
record_seen None w P read h = tt
record_seen (Some input) w P read h = rw read h

-- the fault that is handed on
pub handed : {T E : Type 0} (r : Result T E) (fault : E) (P : E → Type 0) → IsErrAnd r (λ e. e ≡ fault) → P fault → IfErr r P
handed (Ok x) fault P same h = tt
handed (Err e) fault P same h = subst P (sym same) h

-- the same of a fault of the record that was read
pub fault_seen : {T E : Type 0} (P : E → List ℕ → Type 0) (r : Result T E) (left : Option (List ℕ)) (w : Rehearsal) (fault : E) →
    IsErrAnd r (λ e. e ≡ fault) → IfSome left (λ input. script input ≡ Ok w) → ((input : List ℕ) → script input ≡ Ok w → P fault input) →
    IfErr r (λ e. IfSome left (P e))
fault_seen P r left w fault same read h = handed r fault (λ e. IfSome left (P e)) same (IfSome_then left read h)

-- and where none was read
pub unread_seen : {T E : Type 0} (from : ShowFault → E) (P : E → List ℕ → Type 0) (r : Result T E) (left : Option (List ℕ))
    (fault : ShowFault) → IsErrAnd r (λ e. e ≡ from fault) → IfSome left (IsUnread fault) →
    ((text input : List ℕ) → IsToldOf text (read_part input) → P (from (Unread text)) input) →
    ((input : List ℕ) → P (from (Program of.Reader)) input × P (from (Program of.Memory)) input) → IfErr r (λ e. IfSome left (P e))
unread_seen from P r left fault same unread told short =
    handed r (from fault) (λ e. IfSome left (P e)) same (IfSome_then left unread (seen fault))
  where
    seen : (fault : ShowFault) (input : List ℕ) → IsUnread fault input → P (from fault) input
    seen (Unread text) input h = told text input h
    seen (Program of.Reader) input h = (short input).0
    seen (Program of.Memory) input h = (short input).1
    seen _ input h = absurd h
