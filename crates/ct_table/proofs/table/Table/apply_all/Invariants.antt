use Rattle.std.proofs.Common.{◌≡◌, take}
use Rattle.ct_table.specs.Table.{applied_all}
use Rattle.ct_table.proofs.table.Table.apply_all.Given as goal

abbrev pub invariant-loop-message : goal.invariant-loop-message
invariant-loop-message l = l.self ≡ applied_all l.initial.self (take l.message-index l.messages)
