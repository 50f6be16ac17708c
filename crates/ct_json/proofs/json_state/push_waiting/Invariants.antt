use Rattle.ct_json.proofs.Common.{◌++◌, drop, map, nat_lt, string_bytes, fields_text, waiting_fields, waiting_value}
use Rattle.ct_json.proofs.Left.{IsLeft}
use Rattle.ct_json.proofs.json_state.push_waiting.Given as goal

abbrev pub invariant-loop-i : goal.invariant-loop-i
invariant-loop-i l =
    IsLeft (map (waiting_value l.world.rehearsal l.senders) (drop l.i l.line)) (nat_lt 0 l.i) (string_bytes l.text)
    (string_bytes l.fn.text ++ fields_text (waiting_fields l.world.rehearsal l.senders l.line))
