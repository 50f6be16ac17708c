use Rattle.std.proofs.Common.{◌≡◌, Ok, take}
use Rattle.ct_play.specs.Played.{IsLater}
use Rattle.ct_play.specs.Stating.{done_so_by_each}
use Rattle.ct_play.proofs.stating.state_each.Given as goal

abbrev pub invariant-loop-member : goal.invariant-loop-member
invariant-loop-member l = record {
  so_far : done_so_by_each l.who l.act l.said l.fn.stage (take l.member-index l.members) ≡ Ok l.stage;
  later : IsLater l.fn.stage l.stage;
}
