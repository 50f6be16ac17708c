use Rattle.ct_records.proofs.Common.{◌≡◌, ◌++◌, take, drop, map, nat_lt, string_bytes, AllFit, step_text, steps_text, rest_of}
use Rattle.ct_records.proofs.writing.push_steps.Given as goal

abbrev pub invariant-loop-i : goal.invariant-loop-i
invariant-loop-i l = record {
  text : string_bytes l.text ++ rest_of 44 (nat_lt 0 l.i) (drop l.i (map step_text l.steps)) ≡ string_bytes l.fn.text ++ steps_text l.steps;
  fit : AllFit (take l.i l.steps);
}
