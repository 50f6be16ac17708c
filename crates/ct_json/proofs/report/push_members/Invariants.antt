use Rattle.ct_json.proofs.Common.{◌+◌, ◌-◌, ◌++◌, map, string_bytes, counting, fields_text, member_value, members_fields}
use Rattle.ct_json.proofs.Left.{IsLeft}
use Rattle.ct_json.proofs.report.push_members.Given as goal

abbrev pub invariant-loop-i : goal.invariant-loop-i
invariant-loop-i l =
    let w = l.world.rehearsal in
    IsLeft (map (member_value w) (counting (l.i + 1) (w.setting.members - l.i))) l.later (string_bytes l.text)
    (string_bytes l.fn.text ++ fields_text (members_fields w))
