use Rattle.ct_merge.specs.Merging.{IsLater, IsTakenFrom}
use Rattle.ct_merge.proofs.progress.Progress.run.Given as goal

abbrev pub invariant-loop-round : goal.invariant-loop-round
invariant-loop-round l = record {
  taken : IsTakenFrom l.logs l.self;
  later : IsLater l.fn.self.rehearsal l.self.rehearsal;
}
