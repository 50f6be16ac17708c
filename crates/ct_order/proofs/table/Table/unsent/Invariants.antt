use Rattle.std.proofs.Common.{◌≡◌, ℕ, true, is_some, string_bytes}
use Rattle.std.specs.HashMap.{get_by_text}
use Rattle.std.specs.List.{list_all}
use Rattle.ct_order.specs.Knowing.{AreSent}
use Rattle.ct_order.specs.declared.told.Told.{Told}
use Rattle.ct_order.proofs.table.Table.unsent.Given as goal

abbrev pub invariant-loop-at : goal.invariant-loop-at
invariant-loop-at l =
    list_all (λ (e : ℕ × Told). is_some (get_by_text l.self.sent (string_bytes e.1.word))) l.at-iterator ≡ true → AreSent l.self
