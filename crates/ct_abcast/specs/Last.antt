-- The largest number of each origin that was delivered.
use Rattle.std.specs.Prelude.{◌≡◌, ℕ, Bool, true, false, ◌&&◌, nat_lt, List, length, slice_index}
use Rattle.ct_names.specs.Message.{Message}
use Rattle.ct_names.specs.Value.{has}
use Rattle.ct_abcast.specs.declared.last.TheConstants.{ORIGINS}
use Rattle.ct_abcast.specs.Ends.{AreEnds}

-- the message's number is larger than the one of its origin
abbrev pub is_past : List ℕ → Message → Bool
is_past last m = nat_lt m.origin ORIGINS && nat_lt (slice_index last m.origin) m.number

-- no message of the list has a larger number than the one of its origin
abbrev pub AreWithin : List ℕ → List Message → Type 0
AreWithin last list = (m : Message) → has list m ≡ true → is_past last m ≡ false

-- what was delivered, where each batch ends in it, and the largest number of each origin
pub record IsDelivered (list : List Message) (ends last : List ℕ) : Type 0 where
  pub ends_there : AreEnds 0 ends (length list)
  pub within : AreWithin last list
