use Rattle.std.proofs.Common.{◌≡◌, Some}
use Rattle.std.specs.Prelude.{All}
use Rattle.ct_play.specs.Goals.{shows}
use Rattle.ct_shrink.specs.Naming.{IsByContent}
use Rattle.ct_shrink.proofs.Beginning.{IsBegun}
use Rattle.ct_shrink.proofs.first_run.first_lines.Given as goal

abbrev pub invariant-loop-i : goal.invariant-loop-i
invariant-loop-i l = record {
  goal : l.watch.goal ≡ Some l.goal;
  begun : IsBegun (shows l.goal) l.setup l.steps l.i l.lines.items l.watch.played;
  named : All IsByContent l.lines.items;
}
