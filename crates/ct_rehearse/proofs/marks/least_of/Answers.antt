use Rattle.std.proofs.Common.{refl}
use Rattle.std.proofs.lemmas.List.{take_more}
use Rattle.ct_rehearse.specs.Pace.{least_of}
use Rattle.ct_rehearse.proofs.PaceLemmas.{least_of-snoc}
use Rattle.ct_rehearse.proofs.marks.least_of.Goals as goal

pub loop-mark-init : goal.loop-mark-init
unfolding least_of
loop-mark-init c = refl

pub loop-mark-preserved : goal.loop-mark-preserved
loop-mark-preserved c = rw (
  take_more c.args.marks.now c.loop-mark.mark-index 0 c.loop-mark-test.true,
  least_of-snoc,
  ← c.loop-mark.invariant,
) c.min-least.ensures
