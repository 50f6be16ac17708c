use Rattle.ct_json.proofs.Common.{◌≡◌, ◌+◌, ◌-◌, ◌++◌, map, string_bytes, counting, members, lines_text}
use Rattle.ct_json.specs.JsonState.{member_value}
use Rattle.ct_json.proofs.json_state.push_members.Given as goal

abbrev pub invariant-loop-i : goal.invariant-loop-i
invariant-loop-i l =
    let n = l.world.rehearsal.setting.members in
    let f = member_value l.world.rehearsal l.senders in
    string_bytes l.text ++ lines_text (map f (counting (l.i + 1) (n - l.i))) ≡ string_bytes l.fn.text ++ lines_text (map f (members n))
