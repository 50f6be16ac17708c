use Rattle.std.proofs.Common.{◌-◌, length}
use Rattle.ct_names.specs.declared.limit.TheConstants.{MAX_STEPS}
use Rattle.ct_merge.specs.Merging.{IsLater, IsTakenFrom}
use Rattle.ct_merge.proofs.taking_all.take_all.Given as goal

abbrev pub invariant-loop-member : goal.invariant-loop-member
invariant-loop-member l = record {
  taken : IsTakenFrom l.logs l.progress;
  later : IsLater l.fn.progress.rehearsal l.progress.rehearsal;
}

abbrev pub decreases-loop-member : goal.decreases-loop-member
decreases-loop-member l = MAX_STEPS - length l.progress.rehearsal.steps
