use Rattle.ct_records.proofs.Common.{Result, Ok, Err, IfOk, OnOk}
use Rattle.ct_records.proofs.Written.{round_trip}
use Rattle.ct_records.proofs.writing.write_record.Goals as goal

both : {T E : Type 0} (r : Result T E) (P S : T → Type 0) (Q : Type 0) → ((x : T) → P x → Q → S x) → IfOk r P → OnOk r Q → IfOk r S
both (Ok x) P S Q f p q = f x p q
both (Err e) P S Q f p q = tt

pub returns-clause-reads_back : goal.returns-clause-reads_back
returns-clause-reads_back c =
    both c.record_bytes.result _ _ _ (λ bytes text storable. rw text (round_trip _ storable)) c.record_bytes.ensures.text
    c.record_bytes.ensures.storable
