use Rattle.std.proofs.Common.{◌≡◌, None}
use Rattle.std.specs.Prelude.{find}
use Rattle.ct_names.specs.Group.{members}
use Rattle.ct_play.specs.Claims.{refuses_heard}
use Rattle.ct_play.proofs.claims.refuses_choice.Given as goal

abbrev pub invariant-loop-i : goal.invariant-loop-i
invariant-loop-i l = find (refuses_heard l.world.rehearsal l.member l.reason) (members l.i) ≡ None
