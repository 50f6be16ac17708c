use Rattle.std.proofs.Common.{◌≡◌}
use Rattle.ct_names.specs.Group.{members}
use Rattle.ct_play.proofs.naming.first_members.Given as goal

abbrev pub invariant-loop-i : goal.invariant-loop-i
invariant-loop-i l = l.list.items ≡ members l.i
