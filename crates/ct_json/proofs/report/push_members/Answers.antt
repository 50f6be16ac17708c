use Rattle.ct_json.proofs.Common.{◌+◌, ◌<◌, ap, arith, map, refl, codes, string_bytes, counting, member_value}
use Rattle.json.proofs.OnLiterals.{json_on_literals}
use Rattle.ct_names.specs.Group.{members}
use Rattle.ct_json.specs.Json.{members_fields}
use Rattle.ct_json.proofs.Left.{counting_all, counting_next, counting_none, field_left, map_end, map_one}
use Rattle.ct_json.proofs.report.push_members.Goals as goal

pub loop-i-init : goal.loop-i-init
unfolding members_fields members json_on_literals
loop-i-init c =
    let w = c.args.world.now.rehearsal in
    field_left (codes "members") (codes ",\"members\":[") _ (map (member_value w) (counting 1 w.setting.members))
    (string_bytes c.args.text.now) _ refl c.in_ok-push_str.ensures.bytes (ap (map (member_value w)) (counting_all 1 w.setting.members))

pub loop-i-preserved : goal.loop-i-preserved
loop-i-preserved c =
    let w = c.args.world.now.rehearsal in
    let i = c.loop-i.i in
    let within : i < w.setting.members = omega arith in
    map_one _ _ (i + 1) (counting_next (i + 1) w.setting.members i within) _ _ _ (member_value w) _ _ c.loop-i.invariant
    c.in_ok-push_separator.ensures c.in_ok-push_member.ensures

pub returns : goal.returns
returns c =
    let w = c.args.world.now.rehearsal in
    map_end c.push_str-2.result _ (counting_none (c.loop-i.i + 1) w.setting.members c.loop-i.i (omega arith)) _ _ _ _ (member_value w)
    c.loop-i.invariant c.push_str-2.ensures.bytes
