use Rattle.ct_shrink.proofs.candidates.push_rounds.Given as goal

abbrev pub decreases-loop-circles : goal.decreases-loop-circles
decreases-loop-circles l = l.circles
