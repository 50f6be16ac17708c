-- The instances for which a decision was got.
use Rattle.std.specs.Prelude.{ℕ, List, filter, is_some}
use Rattle.std.specs.Map.{keys_of}
use Rattle.ct_instances.specs.Kept.{Kept, decision_at}

-- in the order of the entries
abbrev pub decided_instances : Kept → List ℕ
decided_instances kept = filter (λ k. is_some (decision_at kept k)) (keys_of kept.entries)
