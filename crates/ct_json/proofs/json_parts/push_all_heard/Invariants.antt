use Rattle.ct_json.proofs.Common.{◌+◌, ◌-◌, ◌++◌, flat_map, string_bytes, counting, fields_text, heard_fields, heard_values}
use Rattle.ct_json.proofs.Left.{IsLeft}
use Rattle.ct_json.proofs.json_parts.push_all_heard.Given as goal

abbrev pub invariant-loop-i : goal.invariant-loop-i
invariant-loop-i l =
    let w = l.world.rehearsal in
    IsLeft (flat_map (heard_values w l.member) (counting (l.i + 1) (w.setting.members - l.i))) l.later (string_bytes l.text)
    (string_bytes l.fn.text ++ fields_text (heard_fields w l.member))
