use Rattle.ct_json.proofs.Common.{◌+◌, ◌-◌, ◌++◌, length, map, string_bytes, counting, state_of, fields_text, envelope_value, sent_fields}
use Rattle.ct_json.proofs.Left.{IsLeft}
use Rattle.ct_json.proofs.json_envelopes.push_sent_at.Given as goal

abbrev pub invariant-loop-i : goal.invariant-loop-i
invariant-loop-i l =
    let w = l.world.rehearsal in
    let count = length (state_of w).sent - l.before in
    IsLeft (map (envelope_value w) (counting (l.before + l.i + 1) (count - l.i))) l.later (string_bytes l.text)
    (string_bytes l.fn.text ++ fields_text (sent_fields w l.before))
