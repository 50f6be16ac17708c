use Rattle.std.proofs.Common.{◌≡◌, ℕ, ◌<◌, [], get_or}
use Rattle.ct_merge.specs.Expected.{Expecting}
use Rattle.ct_logs.proofs.unmet.expects_some.Given as goal

abbrev pub invariant-loop-expectations : goal.invariant-loop-expectations
invariant-loop-expectations l =
    (k : ℕ) (d : Expecting) → k < l.expectations-index → (get_or l.expected k d).list ≡ []
