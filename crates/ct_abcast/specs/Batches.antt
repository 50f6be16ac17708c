-- What was delivered, a list for each decision.
use Rattle.std.specs.Prelude.{ℕ, Bool, List, flat_map}
use Rattle.ct_names.specs.Message.{Message}
use Rattle.ct_names.specs.Value.{Value, minus, ordered}

-- what was delivered for each decision, in order, how many messages more can be delivered without memory,
-- and whether one batch more can
pub record Batches : Type 0 where
  pub batches : List (List Message)
  pub room : ℕ
  pub fits_batch : Bool

-- the messages of the batches, in order
abbrev pub joined : List (List Message) → List Message
joined batches = flat_map (λ b. b) batches

-- what a decision delivers after the batches: its messages that none of them has, in their order
abbrev pub batch_after : List (List Message) → Value → List Message
batch_after batches v = ordered (minus v (joined batches))
