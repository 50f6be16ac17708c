-- Faults that stay.
use Rattle.std.proofs.Common.{◌≡◌, Bool, true, false, Ok, Err, Result, subst, sym}
use Rattle.std.specs.Prelude.{IfErr, IsErrAnd}
use Rattle.ct_play.specs.declared.line_fault.LineFault.{LineFault}
use Rattle.ct_play.specs.Faults.{IsFaultOf, IsKept, UnlessShort, is_short}

unless : (b : Bool) (P Q : Type 0) → (P → Q) → UnlessShort b P → UnlessShort b Q
unless true P Q f h = tt
unless false P Q f h = f h

given : (b : Bool) (P : Type 0) → P → UnlessShort b P
given true P h = tt
given false P h = h

-- after any fault that changes nothing
pub kept : {A : Type 0} (old new : A) (fault : LineFault) → new ≡ old → IsKept old new fault
kept old new fault e = given (is_short fault) (new ≡ old) e

-- what has each fault of something has its fault
pub fault_by : {A B : Type 0} (r : Result A LineFault) (q : Result B LineFault) (fault : LineFault) → (r ≡ Err fault → q ≡ Err fault) →
    IsFaultOf r fault → IsFaultOf q fault
fault_by r q fault f h = unless (is_short fault) (r ≡ Err fault) (q ≡ Err fault) f h

-- a fault that is handed on
pub handed : {T : Type 0} (P : LineFault → Type 0) (r : Result T LineFault) (fault : LineFault) → IsErrAnd r (λ e. e ≡ fault) → P fault →
    IfErr r P
handed P (Ok x) fault same h = tt
handed P (Err e) fault same h = subst P (sym same) h
