use Rattle.std.proofs.Common.{◌≡◌, Some}
use Rattle.ct_play.specs.Goals.{shows}
use Rattle.ct_shrink.proofs.Tried.{IsTrying}
use Rattle.ct_shrink.proofs.trying.kept_lines.Given as goal

abbrev pub invariant-loop-line : goal.invariant-loop-line
invariant-loop-line l = record {
  goal : l.watch.goal ≡ Some l.goal;
  trying : IsTrying (shows l.goal) l.setup l.lines l.line-index l.kept.items l.watch.played;
}
