use Rattle.ct_json.proofs.Common.{◌++◌, drop, map, nat_lt, string_bytes, compact_text, array_by, step_data}
use Rattle.ct_json.proofs.Left.{IsLeft}
use Rattle.ct_json.proofs.json_state.push_entries.Given as goal

abbrev pub invariant-loop-i : goal.invariant-loop-i
invariant-loop-i l =
    IsLeft (map step_data (drop l.i l.steps)) (nat_lt 0 l.i) (string_bytes l.text)
    (string_bytes l.fn.text ++ compact_text (array_by step_data l.steps))
