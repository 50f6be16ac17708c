use Rattle.ct_order.proofs.judged.asked_fault.Goals as goal

pub returns-in-len1-up-clause-fault : goal.returns-in-len1-up-clause-fault
returns-in-len1-up-clause-fault c = λ texts atomic. c.fault_of.ensures.fault texts (c.asked_wrong-wrong.ensures texts atomic)
