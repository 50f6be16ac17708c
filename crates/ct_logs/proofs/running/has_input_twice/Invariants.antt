use Rattle.std.proofs.Common.{◌≡◌, ℕ, ◌<◌, true, Some}
use Rattle.std.specs.Prelude.{codes, map, slice_get}
use Rattle.ct_logs.proofs.running.has_input_twice.Given as goal

abbrev pub invariant-loop-name : goal.invariant-loop-name
invariant-loop-name l =
    l.is_named ≡ true →
    (first : ℕ) × (first < l.name-index) × (slice_get (map (λ name. name.now) l.names) first ≡ Some (codes "-"))
