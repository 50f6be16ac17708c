use Rattle.std.proofs.Common.{◌≡◌, None, IfSome}
use Rattle.ct_merge.specs.Merging.{IsWholeTo}
use Rattle.ct_merge.specs.Stops.{IsCulpritAt}
use Rattle.ct_merge.proofs.standstill.standstill.Given as goal

abbrev pub invariant-loop-i : goal.invariant-loop-i
invariant-loop-i l = record {
  whole : l.cut ≡ None → IsWholeTo l.logs l.progress.counts l.i;
  culprit : IfSome l.cut (IsCulpritAt l.logs l.progress);
}
