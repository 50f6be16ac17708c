use Rattle.std.proofs.Common.{◌≡◌, true}
use Rattle.std.specs.List.{list_all}
use Rattle.ct_names.specs.Group.{members}
use Rattle.ct_progress.specs.Progress.{is_settled}
use Rattle.ct_settled.proofs.hindering.are_settled.Given as goal

abbrev pub invariant-loop-i : goal.invariant-loop-i
invariant-loop-i l = list_all (is_settled l.world.rehearsal) (members l.i) ≡ true
