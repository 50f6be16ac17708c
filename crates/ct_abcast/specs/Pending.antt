-- What is pending at a member.
use Rattle.std.specs.Prelude.{◌≡◌, ◌&&◌, not, List}
use Rattle.ct_names.specs.Message.{Message}
use Rattle.ct_names.specs.Value.{has}

-- the list has what was received and not delivered
abbrev pub IsPending : List Message → List Message → List Message → Type 0
IsPending pending received delivered = (m : Message) → has pending m ≡ (has received m && not (has delivered m))
