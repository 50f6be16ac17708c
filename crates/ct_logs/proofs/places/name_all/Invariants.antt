use Rattle.std.proofs.Common.{◌≡◌, ℕ, ◌-◌, ◌<◌, ◌≤◌, length, map}
use Rattle.ct_merge.specs.Logs.{log_of}
use Rattle.ct_merge.specs.Proposers.{line_in}
use Rattle.ct_logs.proofs.places.name_all.Given as goal

abbrev pub invariant-loop-i : goal.invariant-loop-i
invariant-loop-i l = record {
  size : length l.logs ≡ length l.fn.logs;
  named : (p : ℕ) → p - 1 < l.i → log_of l.logs p ≡ map (line_in l.group) (log_of l.fn.logs p);
  rest : (p : ℕ) → l.i ≤ p - 1 → log_of l.logs p ≡ log_of l.fn.logs p;
}
