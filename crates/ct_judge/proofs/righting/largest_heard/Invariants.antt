use Rattle.std.proofs.Common.{◌≡◌}
use Rattle.ct_judging.specs.Rights.{largest_heard}
use Rattle.ct_judge.proofs.righting.largest_heard.Given as goal

abbrev pub invariant-loop-i : goal.invariant-loop-i
invariant-loop-i l = l.best ≡ largest_heard l.world.rehearsal l.member l.i
