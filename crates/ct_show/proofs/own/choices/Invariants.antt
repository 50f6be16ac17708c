use Rattle.std.proofs.Common.{◌≡◌}
use Rattle.ct_show.specs.Own.{first_choices}
use Rattle.ct_show.proofs.own.choices.Given as goal

abbrev pub invariant-loop-i : goal.invariant-loop-i
invariant-loop-i l = l.steps.items ≡ first_choices l.member l.i
