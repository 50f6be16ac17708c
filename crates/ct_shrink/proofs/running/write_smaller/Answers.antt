use Rattle.std.proofs.Common.{arith, rules, subst}
use Rattle.std.proofs.lemmas.Grind.{common_steps}
use Rattle.std.specs.Io.KnownBytes.{Appends}
use Rattle.ct_records.specs.View.{rehearsal_of}
use Rattle.ct_play.specs.Goals.{shows}
use Rattle.ct_streams.specs.Streams.{WritesPart}
use Rattle.ct_told.proofs.Seen.{fault_seen, record_seen, unread_seen}
use Rattle.ct_shrink.specs.declared.shrink_fault.ShrinkFault.TheVariants.{Show}
use Rattle.ct_shrink.specs.Writing.{FailsOn, KnowsMembers}
use Rattle.ct_shrink.proofs.Reading.{fails}
use Rattle.ct_shrink.proofs.running.write_smaller.Goals as goal

pub returns-in_err-script-clause-fault : goal.returns-in_err-script-clause-fault
returns-in_err-script-clause-fault g c =
    unread_seen Show (FailsOn (shows c.args.goal.now) c.args.goal.now) c.from_residual.result _ c.in_err-script.field-0.0
    c.from_residual.ensures.1 c.in_err-script.ensures.fault (λ text input h. h) (λ input. (tt, tt))

pub returns-in-Some-clause-fault : goal.returns-in-Some-clause-fault
returns-in-Some-clause-fault g c =
    record_seen _ (rehearsal_of c.in_ok-script.script) _ c.in_ok-script.ensures.ok
    (first_of (search rules, grind (arith, common_steps)))

pub returns-in_err-made-clause-fault : goal.returns-in_err-made-clause-fault
returns-in_err-made-clause-fault g c =
    let w = rehearsal_of c.in_ok-script.script in
    let fault = c.in_err-made.field-0.0 in
    let known : KnowsMembers c.args.goal.now w = first_of (search rules, grind (arith, common_steps)) in
    fault_seen (FailsOn (shows c.args.goal.now) c.args.goal.now) c.from_residual-in_err-made.result _ w fault
    c.from_residual-in_err-made.ensures.1 c.in_ok-script.ensures.ok
    (λ input. fails (shows c.args.goal.now) c.args.goal.now w fault input c.in_err-made.ensures.fault known)

pub returns-in-Ok-clause-ok : goal.returns-in-Ok-clause-ok
returns-in-Ok-clause-ok g c =
    record_seen _ (rehearsal_of c.in_ok-script.script) _ c.in_ok-script.ensures.ok (
      first_of (search rules, grind (arith, common_steps)),
      c.in_ok-made.made.text.items,
      c.in_ok-made.ensures.ok,
      subst (Appends _ _) c.deref.ensures.value c.in-Ok.ensures.bytes,
    )

pub returns-clause-part : goal.returns-clause-part
returns-clause-part g c = λ _.
    record_seen _ (rehearsal_of c.in_ok-script.script) _ c.in_ok-script.ensures.ok (
      first_of (search rules, grind (arith, common_steps)),
      c.in_ok-made.made.summary,
      c.in_ok-made.made.text.items,
      c.in_ok-made.ensures.ok,
      subst (WritesPart _ _) c.deref.ensures.value c.in-Err.ensures.part,
    )
