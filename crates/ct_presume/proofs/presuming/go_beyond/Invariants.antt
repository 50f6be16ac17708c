use Rattle.std.proofs.Common.{◌≡◌}
use Rattle.ct_merge.specs.Waits.{AllBegin}
use Rattle.ct_presume.proofs.presuming.go_beyond.Given as goal

abbrev pub invariant-loop-more : goal.invariant-loop-more
invariant-loop-more l = record {
  begun : AllBegin l.fn.merger.logs l.growing.logs;
  setting : l.growing.setting ≡ l.fn.merger.setting;
  cells : l.growing.cells ≡ l.fn.merger.cells;
}
