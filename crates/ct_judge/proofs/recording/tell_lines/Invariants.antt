use Rattle.std.proofs.Common.{◌≡◌, ◌≤◌, ◌+◌, length}
use Rattle.ct_grammar.specs.Texts.{lines_of}
use Rattle.ct_judging.specs.Schedule.{after_lines}
use Rattle.ct_judge.specs.Schedule.{before_fault}
use Rattle.ct_judge.proofs.recording.tell_lines.Given as goal

abbrev pub invariant-loop-end : goal.invariant-loop-end
invariant-loop-end l = record {
  so_far : after_lines l.fn.recorder (lines_of l.fn.text) ≡ after_lines l.recorder (lines_of l.rest);
  left : before_fault l.fn.recorder (lines_of l.fn.text) ≡ before_fault l.recorder (lines_of l.rest);
  few : l.recorder.number + length l.rest ≤ l.fn.recorder.number + length l.fn.text;
}

abbrev pub decreases-loop-end : goal.decreases-loop-end
decreases-loop-end l = length l.rest
