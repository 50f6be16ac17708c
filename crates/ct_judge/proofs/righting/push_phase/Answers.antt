use Rattle.std.proofs.Common.{append-nil}
use Rattle.ct_judging.specs.Rights.{phase_hint}
use Rattle.ct_judge.proofs.righting.push_phase.Goals as goal

pub returns : goal.returns
unfolding phase_hint
returns c = rw (← c.phase_name-name.ensures, append-nil) c.write.ensures.bytes
