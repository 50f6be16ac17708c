use Rattle.ct_logs.specs.Files.{texts_of}
use Rattle.ct_logs.specs.Sets.{HasTaken}
use Rattle.ct_logs.proofs.log_set.LogSet.take_all.Given as goal

abbrev pub invariant-loop-i : goal.invariant-loop-i
invariant-loop-i l = HasTaken (texts_of l.texts) l.i l.self
