-- What is received, after one more wire.
use Rattle.std.proofs.Common.{arith}
use Rattle.std.proofs.Common.{◌≡◌, List, [], ◌∷◌, ◌++◌}
use Rattle.std.specs.Prelude.{if◌then◌else◌}
use Rattle.std.proofs.lemmas.List.{append-nil}
use Rattle.std.proofs.lemmas.List.Elements.{filter_map-append}
use Rattle.ct_names.specs.Message.{Message}
use Rattle.ct_names.specs.Value.{has}
use Rattle.ct_names.proofs.Receipts.{first_occurrences-push}
use Rattle.ct_model.specs.AtValue.{Wire}
use Rattle.ct_model.specs.declared.wire.Wire.TheVariants.{Data}
use Rattle.ct_model.specs.Received.{received}

-- one more message, unless it is there
abbrev pub joined_by : List Message → Wire → List Message
joined_by list (Data m) = if has list m then list else list ++ m ∷ []
joined_by list _ = list

pub received-push : (got : List Wire) (w : Wire) → received (got ++ w ∷ []) ≡ joined_by (received got) w
unfolding received
received-push got w = grind (arith, filter_map-append, first_occurrences-push, append-nil)
