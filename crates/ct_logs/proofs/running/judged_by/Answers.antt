use Rattle.std.proofs.Common.{Bool, sym, subst}
use Rattle.std.specs.Prelude.{IfOk}
use Rattle.ct_logs.specs.Judging.{IsJudged, logs_in}
use Rattle.ct_logs.proofs.running.judged_by.Goals as goal

pub returns-in-true-clause-ok : goal.returns-in-true-clause-ok
returns-in-true-clause-ok c =
    subst (λ (b : Bool). IfOk c.presumed_of.result (IsJudged b (logs_in c.args.setup c.args.set.now))) (sym c.in-true.is)
    c.presumed_of.ensures.ok

pub returns-in-false-clause-ok : goal.returns-in-false-clause-ok
returns-in-false-clause-ok c =
    subst (λ (b : Bool). IfOk c.judged_of.result (IsJudged b (logs_in c.args.setup c.args.set.now))) (sym c.in-false.is)
    c.judged_of.ensures.ok
