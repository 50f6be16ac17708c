use Rattle.std.proofs.Common.{◌≡◌, ℕ, length, Option, None}
use Rattle.std.specs.Prelude.{All}
use Rattle.ct_logs.proofs.places.no_files.Given as goal

abbrev pub invariant-loop-i : goal.invariant-loop-i
invariant-loop-i l = record { count : length l.files.items ≡ l.i; none : All (λ (file : Option ℕ). file ≡ None) l.files.items }
