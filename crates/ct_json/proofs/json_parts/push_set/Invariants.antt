use Rattle.ct_json.proofs.Common.{◌+◌, ◌-◌, ◌++◌, flat_map, string_bytes, compact_text, counting, set_value, set_values}
use Rattle.ct_json.proofs.Left.{IsLeft}
use Rattle.ct_json.proofs.json_parts.push_set.Given as goal

abbrev pub invariant-loop-i : goal.invariant-loop-i
invariant-loop-i l =
    IsLeft (flat_map (set_values l.set) (counting (l.i + 1) (16 - l.i))) l.later (string_bytes l.text)
    (string_bytes l.fn.text ++ compact_text (set_value l.set))
