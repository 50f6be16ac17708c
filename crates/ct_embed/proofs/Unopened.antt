-- Why no world is opened of a record: what reading and replaying tell.
use Rattle.ct_embed.proofs.Common.{◌≡◌, ℕ, inl, inr, Refusal, Rehearsal, IsFaultOf}
use Rattle.std.proofs.Common.{List, refl}
use Rattle.std.specs.Prelude.{Result, Ok, Err}
use Rattle.ct_model.specs.declared.step.Step.{Step}
use Rattle.ct_records.specs.Gives.{Fails}
use Rattle.ct_records.specs.declared.read_fault.ReadFault.{ReadFault}
use Rattle.ct_records.specs.declared.read_fault.ReadFault.TheVariants.{TooLong, NotJson, Shape, Version, OutOfMemory}
use Rattle.ct_embed.specs.Records.{IsUnopened, not_opened, unread}
use Rattle.ct_embed.specs.RefusalNumbers.{refusal_number}

told : (read : Result Rehearsal ReadFault) (fault : ReadFault) → read ≡ Err fault → IsUnopened read (unread fault)
told read fault e = rw e (inr refl)

pub unread_is : (read : Result Rehearsal ReadFault) (fault : ReadFault) → Fails fault read → IsUnopened read (unread fault)
unread_is read TooLong e = told read TooLong e
unread_is read NotJson e = told read NotJson e
unread_is read (Shape at) e = told read (Shape at) e
unread_is read Version e = told read Version e
unread_is read OutOfMemory e = inl refl

pub stopped_is : (read : Result Rehearsal ReadFault) (w : Rehearsal) (at : ℕ) (refusal : Refusal) → read ≡ Ok w →
    IsFaultOf w.setting w.cells w.steps at refusal → IsUnopened read (not_opened (refusal_number refusal) at)
stopped_is read w at refusal e fault = rw e (inr (record { refusal = refusal; is = refl; fault = fault }))

pub same_fault : (w : Rehearsal) (steps : List Step) (at : ℕ) (refusal : Refusal) → steps ≡ w.steps →
    IsFaultOf w.setting w.cells steps at refusal → IsFaultOf w.setting w.cells w.steps at refusal
same_fault w steps at refusal e fault = rw e at fault
