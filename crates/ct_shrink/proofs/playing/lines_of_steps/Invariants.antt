use Rattle.std.proofs.Common.{◌≡◌, ◌++◌, [], take, drop}
use Rattle.std.specs.Prelude.{All}
use Rattle.ct_world.specs.Setup.{record_of}
use Rattle.ct_shrink.specs.Naming.{IsByContent}
use Rattle.ct_shrink.specs.Playing.{lines_behind}
use Rattle.ct_shrink.proofs.playing.lines_of_steps.Given as goal

abbrev pub invariant-loop-i : goal.invariant-loop-i
invariant-loop-i l = record {
  stage : l.stage.rehearsal ≡ record_of l.setup (take l.i l.steps);
  lines : l.lines.items ++ lines_behind (record_of l.setup (take l.i l.steps)) (drop l.i l.steps) ≡ lines_behind (record_of l.setup []) l.steps;
  named : All IsByContent l.lines.items;
}
