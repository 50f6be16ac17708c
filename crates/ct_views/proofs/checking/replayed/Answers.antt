use Rattle.std.proofs.Common.{arith, rules}
use Rattle.std.proofs.lemmas.Grind.{common_steps}
use Rattle.ct_records.specs.View.{rehearsal_of}
use Rattle.ct_told.proofs.Seen.{record_seen, unread_seen}
use Rattle.ct_views.specs.Checking.{IsFaultOf}
use Rattle.ct_views.proofs.Told.{refused_seen}
use Rattle.ct_views.proofs.checking.replayed.Goals as goal

pub returns-in_err-script-clause-fault : goal.returns-in_err-script-clause-fault
returns-in_err-script-clause-fault g c =
    unread_seen (λ f. f) IsFaultOf c.from_residual.result _ c.in_err-script.field-0.0 c.from_residual.ensures.1
    c.in_err-script.ensures.fault (λ text input h. h) (λ input. (tt, tt))

pub returns-in_err-world-clause-fault : goal.returns-in_err-world-clause-fault
returns-in_err-world-clause-fault g c =
    refused_seen (rehearsal_of c.in_ok-script.script) c.deref.result.now c.in_err-world.field-0.0 c.deref.ensures.value
    c.in_err-world.ensures.err c.from_residual-in_err-world.result _ c.from_residual-in_err-world.ensures.1 c.in_ok-script.ensures.ok

pub returns-clause-ok : goal.returns-clause-ok
returns-clause-ok g c =
    record_seen _ (rehearsal_of c.in_ok-script.script) _ c.in_ok-script.ensures.ok
    (first_of (search rules, grind (arith, common_steps)))
