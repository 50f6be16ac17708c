use Rattle.std.proofs.Common.{◌≡◌, ◌++◌, ◌∷◌, [], subst, sym, arith, Ok, Err}
use Rattle.ct_names.specs.contracts.message.MessageOrd.TheImpl.{ghosts}
use Rattle.ct_names.specs.Value.{ordered, IsOrdered}
use Rattle.ct_names.proofs.Orders.{same_cmp}
use Rattle.ct_names.proofs.Places.{found, set-insert, set-present}
use Rattle.ct_names.proofs.Sets.{set-ordered}
use Rattle.ct_names.proofs.msg_set.MsgSet.add.Goals as goal

-- with the message at its place
after_insert : (c : goal.In_ok-insert) → c.insert.new.self.items ≡ ordered (c.self.inside.items.items ++ c.args.message ∷ [])
after_insert c =
    let set : IsOrdered c.deref.result.now = subst IsOrdered (sym c.deref.ensures.value) c.self.invariant in
    let place = found c.deref.result.now c.args.message (λ y. ghosts.cmp y c.args.message) (λ y. same_cmp y c.args.message) set
    (Err c.in-Err.place) c.in-Err.ensures.bound c.in-Err.ensures.position in
    grind (arith, set-insert c.deref.result.now c.args.message c.in-Err.place set place)

pub invariant_of-self : goal.invariant_of-self
invariant_of-self c = grind (arith, after_insert c, set-ordered (c.self.inside.items.items ++ c.args.message ∷ []))

pub returns-in_ok-insert-clause-ok : goal.returns-in_ok-insert-clause-ok
returns-in_ok-insert-clause-ok c = grind (arith, after_insert c)

pub returns-in_default-clause-ok : goal.returns-in_default-clause-ok
returns-in_default-clause-ok c =
    let set : IsOrdered c.deref.result.now = subst IsOrdered (sym c.deref.ensures.value) c.self.invariant in
    let there = found c.deref.result.now c.args.message (λ y. ghosts.cmp y c.args.message) (λ y. same_cmp y c.args.message) set
    (Ok c.in_default.field-0) c.in_default.ensures.bound c.in_default.ensures.position in
    grind (arith, set-present c.deref.result.now c.args.message set there)
