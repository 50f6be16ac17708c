use Rattle.std.proofs.Common.{sym, subst}
use Rattle.ct_names.specs.Value.{IsOrdered}
use Rattle.ct_names.proofs.Sets.{set-take}
use Rattle.ct_names.proofs.msg_set.MsgSet.truncate.Goals as goal

pub invariant_of-self : goal.invariant_of-self
invariant_of-self c = subst IsOrdered (sym c.truncate.ensures.items) (set-take c.args.count c.self.inside.items.items c.self.invariant)
