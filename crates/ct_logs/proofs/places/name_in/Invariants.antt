use Rattle.std.proofs.Common.{◌≡◌, ℕ, ◌<◌, ◌≤◌, get_or, length}
use Rattle.ct_merge.specs.Proposers.{line_in}
use Rattle.ct_merge.specs.declared.log_line.LogLine.{LogLine}
use Rattle.ct_logs.proofs.places.name_in.Given as goal

abbrev pub invariant-loop-line : goal.invariant-loop-line
invariant-loop-line l = record {
  size : length l.log ≡ length l.fn.log;
  named : (k : ℕ) (d : LogLine) → k < l.line-index → get_or l.log k d ≡ line_in l.group (get_or l.fn.log k d);
  rest : (k : ℕ) (d : LogLine) → l.line-index ≤ k → get_or l.log k d ≡ get_or l.fn.log k d;
}
