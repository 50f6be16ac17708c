use Rattle.ct_json.proofs.Common.{◌+◌, ◌-◌, ◌++◌, flat_map, string_bytes, counting, fields_text, decision_values, decisions_fields}
use Rattle.ct_world.specs.World.{member_of}
use Rattle.ct_json.proofs.Left.{IsLeft}
use Rattle.ct_json.proofs.report.push_decisions.Given as goal

abbrev pub invariant-loop-i : goal.invariant-loop-i
invariant-loop-i l =
    let got = (member_of l.world.rehearsal l.member).got in
    IsLeft (flat_map (decision_values got) (counting (l.i + 1) (l.last - l.i))) l.later (string_bytes l.text)
    (string_bytes l.fn.text ++ fields_text (decisions_fields got))
