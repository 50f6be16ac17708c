use Rattle.std.proofs.Common.{◌≡◌, Ok, subst, sym}
use Rattle.std.proofs.lemmas.Result.{IfErr-weaker, on_ok_weaker}
use Rattle.ct_logs.specs.Owners.{log_for}
use Rattle.ct_logs.proofs.Telling.{no_logs_for, not_read, not_taken, said_here}
use Rattle.ct_logs.proofs.log_set.LogSet.take.Goals as goal

pub returns-clause-ok : goal.returns-clause-ok
returns-clause-ok c =
    on_ok_weaker c.take_log-taken.result
    (λ took. (_, said_here _ _ _ _ c.in_ok-position.ensures.ok c.in-Ok.ensures.log c.in-Ok.ensures.ok, took)) c.take_log-taken.ensures.ok

pub returns-clause-fault : goal.returns-clause-fault
returns-clause-fault c =
    IfErr-weaker c.take_log-taken.result _ _ (λ fault h. no_logs_for _ _ fault
    (not_taken _ _ _ _ c.in_ok-position.ensures.ok c.in-Ok.ensures.log c.in-Ok.ensures.ok c.args.self.now) h) c.take_log-taken.ensures.fault

pub returns-in-Err-clause-fault : goal.returns-in-Err-clause-fault
returns-in-Err-clause-fault c =
    let text = c.args.text.now in
    no_logs_for _ _ c.in-Err.fault (λ never said says can. not_read c.args.file text
    (λ none log is. never none log (subst (λ p. log_for p text ≡ Ok log) (sym c.in_ok-position.ensures.ok) is)) said says)
    c.in-Err.ensures.fault
