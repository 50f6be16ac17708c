-- What is pending at a member, in order.
use Rattle.std.specs.Prelude.{ℕ, ◌≤◌, List, length, take}
use Rattle.ct_names.specs.Message.{Message}
use Rattle.ct_abcast.specs.Pending.{IsPending}

-- how many of the received messages were fed, and those of them that are pending, in order
pub record Fed : Type 0 where
  pub messages : List Message
  pub fed : ℕ

-- it has exactly those of the first received messages that were not delivered
pub record IsFed (f : Fed) (received delivered : List Message) : Type 0 where
  pub within : f.fed ≤ length received
  pub pending : IsPending f.messages (take f.fed received) delivered
