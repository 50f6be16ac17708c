use Rattle.std.proofs.Common.{ap}
use Rattle.std.proofs.lemmas.Result.{IfErr-weaker}
use Rattle.ct_logs.specs.Sets.{LogsSoFar}
use Rattle.ct_logs.proofs.Merged.{judged_set}
use Rattle.ct_logs.proofs.Telling.{silent_no_logs}
use Rattle.ct_logs.proofs.running.judged_in.Goals as goal

pub returns-clause-ok : goal.returns-clause-ok
returns-clause-ok c =
    judged_set c.judged_by.result c.args.presumes c.in-Ok.setup c.args.set.now c.name_senders.new.self c.judged_by.new.set.expected
    c.in-Ok.ensures.ok c.name_senders.ensures.lines (ap (λ (s : LogsSoFar). s.expected) c.name_senders.ensures.rest)
    c.judged_by.ensures.expected c.judged_by.ensures.ok

pub returns-clause-fault : goal.returns-clause-fault
returns-clause-fault c =
    IfErr-weaker c.judged_by.result _ _ (λ fault h. silent_no_logs _ fault h) c.judged_by.ensures.fault
