use Rattle.std.proofs.Common.{◌≡◌, drop}
use Rattle.ct_play.specs.Strangers.{first_in, in_term}
use Rattle.ct_play.proofs.strangers.stranger.Given as goal

abbrev pub invariant-loop-term : goal.invariant-loop-term
invariant-loop-term l = first_in (in_term l.n) l.goal ≡ first_in (in_term l.n) (drop l.term-index l.goal)
