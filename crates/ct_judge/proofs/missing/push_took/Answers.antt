use Rattle.ct_judge.proofs.missing.push_took.Goals as goal

pub returns-in-Lose : goal.returns-in-Lose
returns-in-Lose c = rw c.in-Lose.is c.push_number.ensures

pub returns-in-Receive : goal.returns-in-Receive
returns-in-Receive c = rw c.in-Receive.is c.push_member_number.ensures
