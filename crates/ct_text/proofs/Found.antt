-- One more register, and one more instance, of those that a report goes through.
use Rattle.std.proofs.Common.{◌≡◌, ℕ, ◌+◌, Bool, true, cond, List, [], ◌∷◌, ◌++◌, Option, Some, None, Result, refl, ap, subst, ◌∙◌, add-one}
use Rattle.std.proofs.Common.{append-nil}
use Rattle.std.specs.Prelude.{IsTrue, OnOk, slice_index, unwrap_or}
use Rattle.ct_names.specs.Group.{is_member}
use Rattle.ct_names.specs.Value.{Value}
use Rattle.ct_model.specs.AtValue.{Wire}
use Rattle.ct_model.specs.Received.{decided}
use Rattle.ct_model.specs.Rehearsal.{Rehearsal}
use Rattle.ct_world.specs.Decided.{last_decided}
use Rattle.ct_world.specs.World.{if_member}
use Rattle.ct_text.specs.Lists.{decision_text, decision_texts, first_decisions, decisions_text, nonzero, register_text, register_texts}
use Rattle.ct_text.specs.Lists.{first_registers, table_text}
use Rattle.ct_text.proofs.Pieces.{HasWritten, written_more, written_all}

-- registers

registers-more : (values : List ℕ) (i : ℕ) (o : Option ℕ) → o ≡ nonzero (slice_index values i) →
    first_registers values (i + 1) ≡ first_registers values i ++ register_texts i o
registers-more values i o e = rw (e, add-one) refl

pub register_taken : (values : List ℕ) (i value : ℕ) (old mid new end : List ℕ) (later : Bool) →
    HasWritten 32 (first_registers values i) old new later → Some value ≡ nonzero (slice_index values i)
    → mid ≡ new ++ cond later (32 ∷ []) [] → end ≡ mid ++ register_text i value →
    HasWritten 32 (first_registers values (i + 1)) old end true
register_taken values i value old mid new end later h is first second =
    rw (registers-more values i (Some value) is) (written_more 32 (first_registers values i) (register_text i value) old mid new end later h
    first second)

pub register_passed : (values : List ℕ) (i : ℕ) (old new : List ℕ) (later : Bool) → HasWritten 32 (first_registers values i) old new later →
    None ≡ nonzero (slice_index values i)
    → HasWritten 32 (first_registers values (i + 1)) old new later
register_passed values i old new later h is = rw (registers-more values i None is, append-nil) h

pub table_written : {T E : Type 0} (r : Result T E) (values : List ℕ) (i : ℕ) (old new end : List ℕ) (later : Bool) → i ≡ 16 →
    HasWritten 32 (first_registers values i) old new later → OnOk r (end ≡ new ++ cond later [] (45 ∷ [])) →
    OnOk r (end ≡ old ++ table_text values)
unfolding table_text
table_written r values i old new end later is h last =
    written_all r 32 (first_registers values 16) old new end later
    (subst (λ k. HasWritten 32 (first_registers values k) old new later) is h) last

-- instances

-- what a world tells of a member of its group
pub told_of : {A : Type 0} (w : Rehearsal) (p : ℕ) (o d : Option A) → IsTrue (is_member w.setting.members p) → o ≡ if_member w p d → o ≡ d
told_of w p o d there e = e ∙ rw there refl

decisions-more : (got : List Wire) (i : ℕ) (o : Option Value) → o ≡ decided got (i + 1) →
    first_decisions got (i + 1) ≡ first_decisions got i ++ decision_texts (i + 1) o
decisions-more got i o e = rw (e, add-one) refl

pub decision_taken : (got : List Wire) (i : ℕ) (value : Value) (old mid new end : List ℕ) (later : Bool) →
    HasWritten 32 (first_decisions got i) old new later → Some value ≡ decided got (i + 1)
    → mid ≡ new ++ cond later (32 ∷ []) [] → end ≡ mid ++ decision_text (i + 1) value →
    HasWritten 32 (first_decisions got (i + 1)) old end true
decision_taken got i value old mid new end later h is first second =
    rw (decisions-more got i (Some value) is) (written_more 32 (first_decisions got i) (decision_text (i + 1) value) old mid new end later h
    first second)

pub decision_passed : (got : List Wire) (i : ℕ) (old new : List ℕ) (later : Bool) → HasWritten 32 (first_decisions got i) old new later →
    None ≡ decided got (i + 1)
    → HasWritten 32 (first_decisions got (i + 1)) old new later
decision_passed got i old new later h is = rw (decisions-more got i None is, append-nil) h

pub decisions_written : {T E : Type 0} (r : Result T E) (got : List Wire) (last i : ℕ) (o : Option ℕ) (old new end : List ℕ)
    (later : Bool) → i ≡ last → last ≡ unwrap_or o 0 → o ≡ last_decided got → HasWritten 32 (first_decisions got i) old new later →
    OnOk r (end ≡ new ++ cond later [] (45 ∷ [])) → OnOk r (end ≡ old ++ decisions_text got)
unfolding decisions_text
decisions_written r got last i o old new end later is e largest h dash =
    let bound : i ≡ unwrap_or (last_decided got) 0 = is ∙ e ∙ ap (λ z. unwrap_or z 0) largest in
    written_all r 32 (first_decisions got (unwrap_or (last_decided got) 0)) old new end later
    (subst (λ k. HasWritten 32 (first_decisions got k) old new later) bound h) dash
