use Rattle.std.proofs.Common.{option_map, take}
use Rattle.std.specs.List.{AllZip}
use Rattle.ct_best.specs.Best.{run_of, IsBest, IsToldOf}
use Rattle.ct_best.proofs.shrinking.best_of.Given as goal

abbrev pub invariant-loop-hit : goal.invariant-loop-hit
invariant-loop-hit g l = record {
  walks : AllZip (IsToldOf l.options l.goal l.shrink) (take l.hit-index l.hits) l.walks.items;
  best : IsBest l.options l.goal l.shrink l.walks.items (option_map run_of l.best);
}
