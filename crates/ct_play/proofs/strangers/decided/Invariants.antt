use Rattle.std.proofs.Common.{◌≡◌, drop}
use Rattle.ct_play.specs.Strangers.{decided}
use Rattle.ct_play.proofs.strangers.decided.Given as goal

abbrev pub invariant-loop-decision : goal.invariant-loop-decision
invariant-loop-decision l = decided l.n l.decisions ≡ decided l.n (drop l.decision-index l.decisions)
