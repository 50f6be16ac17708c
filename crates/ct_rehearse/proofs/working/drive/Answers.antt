use Rattle.std.proofs.Common.{refl}
use Rattle.ct_rehearse.proofs.WorkLemmas.{no_turns_made, one_more_counted, one_turn_more}
use Rattle.ct_rehearse.proofs.working.drive.Goals as goal

pub loop-number-init : goal.loop-number-init
loop-number-init g c = rw (c.requires.share, c.none-made.ensures) (refl, refl, refl, no_turns_made _ _)

pub loop-number-preserved : goal.loop-number-preserved
loop-number-preserved g c =
    let has = c.loop-number.invariant in
    let counted = one_more_counted _ _ _ c.turn-outcome.result has.0 has.1 has.2 in
    rw (c.turn-outcome.ensures.share, c.count.ensures) (
      counted.0,
      counted.1,
      counted.2,
      one_turn_more _ _ _ _ _ _ _ has.3 c.turn-outcome.ensures.turn,
    )
