-- The faults of schedules for logs.
use Rattle.std.specs.Prelude.{ℕ, List, ⊤}
use Rattle.ct_order.specs.Command as order
use Rattle.ct_order.specs.Ending as order-ending
use Rattle.ct_order.specs.Ending.{AreNames}
use Rattle.ct_order.specs.declared.order_fault.OrderFault.TheVariants.{Memory}
use Rattle.ct_enact.specs.declared.enact_fault.EnactFault.{EnactFault}
use Rattle.ct_enact.specs.declared.enact_fault.EnactFault.TheVariants.{Order, Limit}

-- a limit has a status of its own
abbrev pub status_of : EnactFault → ℕ
status_of (Order fault) = order.status_of fault
status_of (Limit text) = 8

-- the fault is not one of the logs: they have no schedule here, or memory was refused
abbrev pub IsOfScheme : EnactFault → Type 0
IsOfScheme (Limit text) = ⊤
IsOfScheme (Order Memory) = ⊤
IsOfScheme (Order _) = ⊥

-- what is so of texts of which a fault is told; of a limit nothing is said
abbrev pub IsFault : List (List ℕ) → EnactFault → Type 0
IsFault texts (Order fault) = order-ending.IsFault texts fault
IsFault texts (Limit text) = ⊤

-- the faults that are those of the names
abbrev pub IsOfNames : List (List ℕ) → EnactFault → Type 0
IsOfNames names (Order fault) = order-ending.IsOfNames names fault
IsOfNames names (Limit text) = AreNames names
