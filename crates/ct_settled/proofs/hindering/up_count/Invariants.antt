use Rattle.std.proofs.Common.{◌≡◌, ◌≤◌, filter, length, not}
use Rattle.ct_names.specs.Group.{members}
use Rattle.ct_model.specs.Rehearsal.{state_of}
use Rattle.ct_model.specs.State.{is_crashed}
use Rattle.ct_settled.proofs.hindering.up_count.Given as goal

abbrev pub invariant-loop-i : goal.invariant-loop-i
invariant-loop-i l = record {
  so_far : l.count ≡ length (filter (λ p. not (is_crashed (state_of l.world.rehearsal) p)) (members l.i));
  few : l.count ≤ l.i;
}
