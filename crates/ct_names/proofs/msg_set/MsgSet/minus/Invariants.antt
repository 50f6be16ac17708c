use Rattle.std.proofs.Common.{◌≡◌, take}
use Rattle.ct_names.specs.Value.{minus}
use Rattle.ct_names.proofs.msg_set.MsgSet.minus.Given as goal

abbrev pub invariant-loop-message : goal.invariant-loop-message
invariant-loop-message l = l.items.items ≡ minus (take l.message-index l.message-items) l.list
