use Rattle.std.proofs.Common.{◌≡◌, ◌≤◌}
use Rattle.ct_world.specs.World.{member_of}
use Rattle.ct_play.specs.Facts.{decisions_to}
use Rattle.ct_play.proofs.facts.decision_count.Given as goal

abbrev pub invariant-loop-i : goal.invariant-loop-i
invariant-loop-i l = record {
  so_far : l.count ≡ decisions_to (member_of l.world.rehearsal l.member).got l.i;
  few : l.count ≤ l.i;
}
