use Rattle.ct_merge.specs.Merging.{IsLater, IsTakenFrom}
use Rattle.ct_merge.proofs.progress.Progress.round.Given as goal

abbrev pub invariant-loop-i : goal.invariant-loop-i
invariant-loop-i l = record {
  taken : IsTakenFrom l.logs l.self;
  later : IsLater l.fn.self.rehearsal l.self.rehearsal;
}
