-- The instances that are decided among the wires that a member got.
use Rattle.std.specs.Prelude.{ℕ, List, Option, Some, None, filter_map, max}
use Rattle.std.specs.List.{reduce}
use Rattle.ct_model.specs.declared.wire.Wire.{Wire}
use Rattle.ct_model.specs.declared.wire.Wire.TheVariants.{Dec}

abbrev pub decided_instance : {V : Type 0} → Wire V → Option ℕ
decided_instance (Dec k r v) = Some k
decided_instance _ = None

-- the largest instance that has a decision, None where there is none
unfoldable pub last_decided : {V : Type 0} → List (Wire V) → Option ℕ
last_decided got = reduce max (filter_map decided_instance got)
