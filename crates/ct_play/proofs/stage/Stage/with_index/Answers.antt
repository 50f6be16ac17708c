use Rattle.std.proofs.Common.{subst}
use Rattle.ct_model.specs.Rehearsal.{state_of}
use Rattle.ct_model.proofs.Basics.Options.{some-same}
use Rattle.ct_play.specs.Indexing.{IsEmptyIndex}
use Rattle.ct_play.proofs.stage.Stage.with_index.Goals as goal

pub invariant_of-stage : goal.invariant_of-stage
invariant_of-stage c = (
  c.stage.invariant.0,
  λ index is. subst IsEmptyIndex (some-same c.new.result index is) c.new.ensures (state_of c.stage.inside.stage.rehearsal).sent,
)
