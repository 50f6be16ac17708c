-- The `==` of messages decides whether they are equal, and so does that of lists of them. When two batches are the same.
use Rattle.std.proofs.Common.{arith, ◌≡◌, ℕ, Bool, List}
use Rattle.std.specs.Bool.{Decides}
use Rattle.std.proofs.lemmas.Slice.Eq.{slice_eq-Decides}
use lib.Pointwise.{pointwise}
use Rattle.ct_names.specs.contracts.message.MessagePartialEq.TheImpl.{ghosts as equal}
use Rattle.ct_names.specs.Message.{Message}
use Rattle.ct_names.proofs.Orders.{same_eq}
use Rattle.ct_names.proofs.Values.{is_message-refl}
use Rattle.ct_names.specs.Batch.{Batch}

eq-Decides : (a b : Message) → Decides (equal.eq a b) (a ≡ b)
eq-Decides a b = grind (arith, same_eq a b, is_message-refl a)

pub messages-Decides : (list other : List Message) (same : Bool) → same ≡ pointwise equal.eq list other → Decides same (list ≡ other)
messages-Decides list other same h = slice_eq-Decides eq-Decides list other same h

pub same_batch : (batch : Batch) (instance : ℕ) (messages : List Message) → batch.instance ≡ instance → batch.messages ≡ messages →
    batch ≡ record { instance = instance; messages = messages }
same_batch batch instance messages e f = λ i. record { instance = e i; messages = f i }

-- when two batches are the same
pub ruleset in_batches = (messages-Decides, same_batch)
