use Rattle.std.proofs.Common.{subst, sym}
use Rattle.ct_names.specs.Value.{IsOrdered}
use Rattle.ct_names.proofs.Sets.{set-nil}
use Rattle.ct_names.proofs.msg_set.MsgSet.new.Goals as goal

pub invariant_of-result : goal.invariant_of-result
invariant_of-result c = subst IsOrdered (sym c.new.ensures.items) set-nil
