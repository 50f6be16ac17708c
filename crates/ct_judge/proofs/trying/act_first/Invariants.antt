use Rattle.std.proofs.Common.{◌≡◌, Ok}
use Rattle.ct_judging.specs.Telling.{done_by_first}
use Rattle.ct_judge.proofs.trying.act_first.Given as goal

abbrev pub invariant-loop-i : goal.invariant-loop-i
invariant-loop-i l = done_by_first l.who l.act l.fn.stage l.i ≡ Ok l.stage
