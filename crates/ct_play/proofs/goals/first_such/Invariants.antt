use Rattle.std.proofs.Common.{◌≡◌, None}
use Rattle.std.specs.Prelude.{find}
use Rattle.ct_names.specs.Group.{members}
use Rattle.ct_play.specs.Goals.{is_such}
use Rattle.ct_play.proofs.goals.first_such.Given as goal

abbrev pub invariant-loop-i : goal.invariant-loop-i
invariant-loop-i l = find (is_such l.stage l.whom l.claim l.wanted) (members l.i) ≡ None
