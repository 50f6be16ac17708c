use Rattle.std.proofs.Common.{subst}
use Rattle.ct_order.specs.declared.stop.Stop.{Stop}
use Rattle.ct_order.specs.Reading.{IsHaltIn}
use Rattle.ct_order.proofs.Ending.{contradicts, no_logs}
use Rattle.ct_order.proofs.judged.stopped.Goals as goal

pub returns-in-Line-clause-fault : goal.returns-in-Line-clause-fault
returns-in-Line-clause-fault c = λ texts h.
    let n = no_logs texts c.in-Line.unread (subst (λ (s : Stop). IsHaltIn texts s) c.in-Line.is h) in
    c.stopped_by.ensures.fault texts (c.unread_wrong-which.ensures texts n.0 n.1)

pub returns-in-Clash-clause-fault : goal.returns-in-Clash-clause-fault
returns-in-Clash-clause-fault c = λ texts h.
    c.stopped_by-in-Clash.ensures.fault texts
    (contradicts texts c.in-Clash.conflict (subst (λ (s : Stop). IsHaltIn texts s) c.in-Clash.is h))

pub returns-in-File-clause-fault : goal.returns-in-File-clause-fault
returns-in-File-clause-fault c = λ texts h. c.unread.ensures.fault texts
