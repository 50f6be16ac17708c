use Rattle.std.proofs.Common.{arith, refl}
use Rattle.ct_rehearse.proofs.WorkLemmas.{no_entries_made, one_entry_more, one_more_counted}
use Rattle.ct_rehearse.proofs.working.follow.Goals as goal

pub loop-entry-init : goal.loop-entry-init
loop-entry-init g c = rw (c.requires.share, c.none-made.ensures) (refl, refl, refl, refl, no_entries_made _ _)

pub loop-entry-preserved : goal.loop-entry-preserved
loop-entry-preserved g c =
    let has = c.loop-entry.invariant in
    let counted = one_more_counted _ _ _ c.disturb-outcome.result has.0 has.1 has.2 in
    let same = has.3 in
    rw (c.disturb-outcome.ensures.share, c.count.ensures) (
      counted.0,
      counted.1,
      counted.2,
      omega (arith, same),
      one_entry_more _ _ _ _ _ _ c.loop-entry-test.true has.4 c.disturb-outcome.ensures.entry,
    )
