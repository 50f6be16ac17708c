use Rattle.ct_rehearse.proofs.pace.Pace.give_way.Given as goal

abbrev pub decreases-loop : goal.decreases-loop
decreases-loop l = l.patience.left
