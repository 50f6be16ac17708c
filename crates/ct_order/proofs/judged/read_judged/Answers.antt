use Rattle.ct_order.proofs.judged.read_judged.Goals as goal

pub returns-in-Err-clause-fault : goal.returns-in-Err-clause-fault
returns-in-Err-clause-fault g c = λ texts are. c.stopped-fault.ensures.fault texts (c.in-Err.ensures texts are)
