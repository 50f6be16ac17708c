-- What a member received and delivered (Chandra and Toueg, section 7).
use Rattle.std.specs.Prelude.{ℕ, Bool, ◌&&◌, List, min, nat_le}
use Rattle.ct_names.specs.Message.{Message}
use Rattle.ct_names.specs.Value.{Value, minus, ordered}
use Rattle.ct_abcast.specs.Batches.{joined}

-- the messages in the order of receipt, what was delivered for each decision, in order, the last instance begun, 0 at
-- first, how many messages can be received, and how many delivered, without memory, and whether one batch more can
pub record Cast : Type 0 where
  pub received : List Message
  pub batches : List (List Message)
  pub instance : ℕ
  pub room : ℕ
  pub fits_batch : Bool

-- the messages that were delivered, in order
abbrev pub delivered : Cast → List Message
delivered cast = joined cast.batches

-- the set of the messages that were received and not delivered
abbrev pub undelivered : Cast → Value
undelivered cast = ordered (minus cast.received (delivered cast))

-- what the decision of v delivers: its messages that were not delivered, in their order
abbrev pub batch_of : Cast → Value → List Message
batch_of cast v = ordered (minus v (delivered cast))

-- so many messages can be received, and one batch of so many delivered, without memory
abbrev pub has_room : Cast → ℕ → Bool
has_room cast more = nat_le more cast.room && cast.fits_batch

-- the least of three numbers
abbrev pub least : ℕ → ℕ → ℕ → ℕ
least a b c = min a (min b c)
