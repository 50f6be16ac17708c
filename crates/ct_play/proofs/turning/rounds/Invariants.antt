use Rattle.std.proofs.Common.{◌≡◌}
use Rattle.ct_play.specs.Played.{IsLater}
use Rattle.ct_play.specs.Turning.{IsSeen, after_rounds}
use Rattle.ct_play.proofs.turning.rounds.Given as goal

abbrev pub invariant-loop-i : goal.invariant-loop-i
invariant-loop-i l = record {
  so_far : l.stage ≡ after_rounds l.play l.members l.fn.stage l.i;
  later : IsLater l.fn.stage l.stage;
  seen : IsSeen l.play l.stage l.seen.items;
}
