use Rattle.std.proofs.Common.{◌≡◌}
use Rattle.ct_play.specs.Goals.{looked_at}
use Rattle.ct_play.proofs.goals.look.Given as goal

abbrev pub invariant-loop-i : goal.invariant-loop-i
invariant-loop-i l = l.looks ≡ looked_at l.stage l.i l.terms l.fn.looks
