use Rattle.std.proofs.Common.{refl}
use Rattle.ct_rounds.proofs.Rising.{empty-set}
use Rattle.ct_rounds.proofs.tally.Tally.new.Goals as goal

pub invariant_of-result : goal.invariant_of-result
invariant_of-result c =
    rw (c.new.ensures, c.new-2.ensures, c.new-3.ensures) (record {
      heard_is = empty-set;
      acked_is = empty-set;
      replied_is =
          empty-set;
      best_is = refl;
    })
