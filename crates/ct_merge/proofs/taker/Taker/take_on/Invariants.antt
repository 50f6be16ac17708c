use Rattle.ct_merge.specs.Merging.{IsLater, IsTakenTo, LeavesOthers}
use Rattle.ct_merge.proofs.taker.Taker.take_on.Given as goal

abbrev pub invariant-loop-place : goal.invariant-loop-place
invariant-loop-place l = record {
  taken : IsTakenTo l.self l.member l.log l.count;
  others : LeavesOthers l.member l.fn.self l.self;
  later : IsLater l.fn.self l.self;
}
