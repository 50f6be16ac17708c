use Rattle.std.proofs.Common.{◌≡◌, None, arith, rules}
use Rattle.std.proofs.lemmas.Grind.{common_steps}
use Rattle.ct_records.specs.View.{rehearsal_of}
use Rattle.ct_told.proofs.Seen.{fault_seen, record_seen, unread_seen}
use Rattle.ct_views.specs.Answer.{FailsOn, lacking}
use Rattle.ct_views.proofs.Seen.{fails_seen, part_seen, shows_seen}
use Rattle.ct_views.proofs.running.show.Goals as goal

pub returns-in_err-script-clause-fault : goal.returns-in_err-script-clause-fault
returns-in_err-script-clause-fault g c =
    unread_seen (λ f. f) (λ f input. FailsOn c.args.view.now f input _ _) c.from_residual.result _ c.in_err-script.field-0.0
    c.from_residual.ensures.1 c.in_err-script.ensures.fault (λ text input h. h) (λ input. (tt, tt))

pub returns-in-Some-clause-fault : goal.returns-in-Some-clause-fault
returns-in-Some-clause-fault g c =
    record_seen _ (rehearsal_of c.in_ok-script.script) _ c.in_ok-script.ensures.ok
    (first_of (search rules, grind (arith, common_steps)))

pub returns-in_err-answer-clause-fault : goal.returns-in_err-answer-clause-fault
returns-in_err-answer-clause-fault g c =
    fault_seen (λ f input. FailsOn c.args.view.now f input _ _) c.from_residual-in_err-answer.result _
    (rehearsal_of c.in_ok-script.script) _ c.from_residual-in_err-answer.ensures.1 c.in_ok-script.ensures.ok
    (λ input e. rw c.in_err-answer.ensures.err tt)

pub returns-in-None-clause-member : goal.returns-in-None-clause-member
returns-in-None-clause-member g c =
    record_seen _ (rehearsal_of c.in_ok-script.script) (λ w. lacking c.args.view.now w ≡ None) c.in_ok-script.ensures.ok
    (first_of (search rules, grind (arith, common_steps)))

pub returns-in-None-clause-ok : goal.returns-in-None-clause-ok
returns-in-None-clause-ok g c =
    shows_seen _ _ c.in_ok-script.ensures.ok _ _ _ _ _ _ c.in_ok-answer.ensures.ok c.deref.ensures.value c.in-Ok.ensures.bytes c.in-None.is

pub returns-clause-fault : goal.returns-clause-fault
returns-clause-fault g c =
    fails_seen _ _ c.in_ok-script.ensures.ok _ _ _ _ _ _ c.in_ok-answer.ensures.ok c.deref.ensures.value c.in-Ok.ensures.bytes
    c.in-Some-refused.fault c.in-Some-refused.is

pub returns-in-Err-clause-part : goal.returns-in-Err-clause-part
returns-in-Err-clause-part g c = λ _.
    part_seen _ _ c.in_ok-script.ensures.ok _ _ _ _ _ _ c.in_ok-answer.ensures.ok c.deref.ensures.value c.in-Err.ensures.part
