use Rattle.std.proofs.Common.{◌≡◌, None}
use Rattle.ct_names.specs.Group.{members}
use Rattle.ct_settled.specs.Hindrance.{first_of, hindered}
use Rattle.ct_settled.proofs.hindering.first_hindered.Given as goal

abbrev pub invariant-loop-i : goal.invariant-loop-i
invariant-loop-i l = first_of (hindered l.world.rehearsal) (members l.i) ≡ None
