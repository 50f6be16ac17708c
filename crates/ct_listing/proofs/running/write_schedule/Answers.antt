use Rattle.std.proofs.Common.{subst}
use Rattle.std.specs.Io.KnownBytes.{Appends}
use Rattle.ct_records.specs.View.{rehearsal_of}
use Rattle.ct_streams.specs.Streams.{WritesPart}
use Rattle.ct_told.specs.declared.show_fault.ShowFault.TheVariants.{Program}
use Rattle.ct_told.proofs.Seen.{fault_seen, record_seen, unread_seen}
use Rattle.ct_listing.specs.Listing.{FailsOn}
use Rattle.ct_listing.proofs.Seen.{refusal_fails}
use Rattle.ct_listing.proofs.running.write_schedule.Goals as goal

pub returns-in_err-script-clause-fault : goal.returns-in_err-script-clause-fault
returns-in_err-script-clause-fault g c =
    unread_seen (λ f. f) FailsOn c.from_residual.result _ c.in_err-script.field-0.0 c.from_residual.ensures.1 c.in_err-script.ensures.fault
    (λ text input h. h) (λ input. (tt, tt))

pub returns-in_err-text-clause-fault : goal.returns-in_err-text-clause-fault
returns-in_err-text-clause-fault g c =
    let w = rehearsal_of c.in_ok-script.script in
    let fault = c.in_err-text.field-0.0 in
    fault_seen FailsOn c.from_residual-in_err-text.result _ w (Program fault) c.from_residual-in_err-text.ensures.1
    c.in_ok-script.ensures.ok (λ input. refusal_fails w fault input c.in_err-text.ensures.err)

pub returns-in-Ok-clause-ok : goal.returns-in-Ok-clause-ok
returns-in-Ok-clause-ok g c =
    record_seen _ (rehearsal_of c.in_ok-script.script) _ c.in_ok-script.ensures.ok
    (c.in_ok-text.text.items, c.in_ok-text.ensures.ok, subst (Appends _ _) c.deref.ensures.value c.in-Ok.ensures.bytes)

pub returns-clause-part : goal.returns-clause-part
returns-clause-part g c = λ _.
    record_seen _ (rehearsal_of c.in_ok-script.script) _ c.in_ok-script.ensures.ok
    (c.in_ok-text.text.items, c.in_ok-text.ensures.ok, subst (WritesPart _ _) c.deref.ensures.value c.in-Err.ensures.part)
