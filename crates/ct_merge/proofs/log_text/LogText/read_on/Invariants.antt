use Rattle.std.proofs.Common.{◌≡◌, ◌≤◌, ◌+◌, length}
use Rattle.ct_merge.specs.Texts.{after_lines, whole_lines}
use Rattle.ct_merge.proofs.log_text.LogText.read_on.Given as goal

abbrev pub invariant-loop-end : goal.invariant-loop-end
invariant-loop-end l = record {
  so_far : after_lines l.member l.fn.self (whole_lines l.fn.text) ≡ after_lines l.member l.self (whole_lines l.rest);
  few : l.self.count + length l.rest ≤ l.fn.self.count + length l.fn.text;
}

abbrev pub decreases-loop-end : goal.decreases-loop-end
decreases-loop-end l = length l.rest
