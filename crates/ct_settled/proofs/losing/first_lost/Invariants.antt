use Rattle.std.proofs.Common.{◌≡◌, None}
use Rattle.ct_names.specs.Group.{members}
use Rattle.ct_settled.specs.Hindrance.{first_of, lost_at}
use Rattle.ct_settled.proofs.losing.first_lost.Given as goal

abbrev pub invariant-loop-i : goal.invariant-loop-i
invariant-loop-i l = first_of (lost_at l.stage.rehearsal l.needed) (members l.i) ≡ None
