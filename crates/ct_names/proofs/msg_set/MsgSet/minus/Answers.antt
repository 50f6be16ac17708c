use Rattle.std.proofs.Common.{◌≡◌, arith}
use Rattle.std.proofs.lemmas.List.{append-nil, take_all}
use Rattle.ct_names.specs.Value.{has, IsOrdered}
use Rattle.ct_names.proofs.Places.{minus-more}
use Rattle.ct_names.proofs.Sets.{has-ordered, set-minus}
use Rattle.ct_names.proofs.msg_set.MsgSet.minus.Goals as goal
use Rattle.ct_names.proofs.msg_set.MsgSet.minus.Goals.{then-not-contains+in_ok-push, else-not-contains}

pub loop-message-preserved : goal.loop-message-preserved
loop-message-preserved c =
    let there : has c.args.list.now c.message-item.result ≡ c.contains.result =
    grind (arith, has-ordered c.args.list.now c.message-item.result) in
    let more = minus-more c.deref-message-items.result.now c.args.list.now c.loop-message.message-index c.message-item.result
    c.contains.result c.loop-message-test.true c.message-item.is there in
    elim c.if-not-contains.branch [
      | then-not-contains+in_ok-push w ↦ grind (arith, c.loop-message.invariant, more)
      | else-not-contains w ↦ grind (arith, c.loop-message.invariant, more, append-nil c.loop-message.items.items)
    ]

pub invariant_of-result : goal.invariant_of-result
invariant_of-result c =
    let all = take_all c.loop-message.message-index c.deref-message-items.result.now c.loop-message-test.false in
    let set : IsOrdered c.deref-message-items.result.now = rw c.deref-message-items.ensures.value c.self.invariant in
    grind (arith, c.loop-message.invariant, all, set-minus c.deref-message-items.result.now c.args.list.now set)
