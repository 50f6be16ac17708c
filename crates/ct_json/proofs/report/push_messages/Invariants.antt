use Rattle.ct_json.proofs.Common.{◌++◌, drop, map, nat_lt, string_bytes, compact_text, message_value, messages_value}
use Rattle.ct_json.proofs.Left.{IsLeft}
use Rattle.ct_json.proofs.report.push_messages.Given as goal

abbrev pub invariant-loop-i : goal.invariant-loop-i
invariant-loop-i l =
    IsLeft (map message_value (drop l.i l.messages)) (nat_lt 0 l.i) (string_bytes l.text)
    (string_bytes l.fn.text ++ compact_text (messages_value l.messages))
