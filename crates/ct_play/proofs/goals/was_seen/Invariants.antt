use Rattle.std.proofs.Common.{◌≡◌}
use Rattle.ct_play.specs.Goals.{was_seen}
use Rattle.ct_play.specs.Played.{first_part}
use Rattle.ct_play.proofs.goals.was_seen.Given as goal

abbrev pub invariant-loop-i : goal.invariant-loop-i
invariant-loop-i l = record {
  part : l.part ≡ first_part l.stage l.i;
  so_far : l.seen ≡ was_seen l.stage l.term l.i;
}
