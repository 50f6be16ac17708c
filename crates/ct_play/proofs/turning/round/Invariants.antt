use Rattle.std.proofs.Common.{◌≡◌, take}
use Rattle.ct_play.specs.Played.{IsLater}
use Rattle.ct_play.specs.Turning.{IsSeen, after_round}
use Rattle.ct_play.proofs.turning.round.Given as goal

abbrev pub invariant-loop-member : goal.invariant-loop-member
invariant-loop-member l = record {
  so_far : l.stage ≡ after_round l.play (take l.member-index l.members) l.fn.stage;
  later : IsLater l.fn.stage l.stage;
  seen : IsSeen l.play l.stage l.seen.items;
}
