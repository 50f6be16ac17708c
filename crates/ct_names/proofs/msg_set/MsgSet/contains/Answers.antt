use Rattle.std.proofs.Common.{subst, sym, arith}
use Rattle.ct_names.specs.contracts.message.MessageOrd.TheImpl.{ghosts}
use Rattle.ct_names.specs.Value.{IsOrdered}
use Rattle.ct_names.proofs.Orders.{same_cmp}
use Rattle.ct_names.proofs.Places.{found, ok_has}
use Rattle.ct_names.proofs.msg_set.MsgSet.contains.Goals as goal

pub returns : goal.returns
returns c =
    let f = found c.deref.result.now c.args.message.now (λ y. ghosts.cmp y c.args.message.now) (λ y. same_cmp y c.args.message.now)
    (subst IsOrdered (sym c.deref.ensures.value) c.self.invariant) c.binary_search.result c.binary_search.ensures.bound
    c.binary_search.ensures.position in
    grind (arith, ok_has c.binary_search.result c.deref.result.now c.args.message.now f)
