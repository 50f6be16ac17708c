use Rattle.ct_json.proofs.Common.{◌+◌, ◌<◌, ap, arith, refl, sym, codes, flat_map, string_bytes, counting, heard_if, heard_values}
use Rattle.json.proofs.OnLiterals.{json_on_literals}
use Rattle.ct_names.specs.Group.{members}
use Rattle.ct_json.specs.JsonParts.{heard_fields}
use Rattle.ct_json.proofs.Left.{counting_all, counting_next, counting_none, field_left, flat_end, flat_none, flat_one}
use Rattle.ct_json.proofs.json_parts.push_all_heard.Goals.{in-Some+in_ok-push_separator+in_ok-push_heard, in_default}
use Rattle.ct_json.proofs.json_parts.push_all_heard.Goals as goal

pub loop-i-init : goal.loop-i-init
unfolding heard_fields members json_on_literals
loop-i-init c =
    let w = c.args.world.now.rehearsal in
    let f = heard_values w c.args.member in
    field_left (codes "heard") (codes ",\"heard\":[") _ (flat_map f (counting 1 w.setting.members))
    (string_bytes c.args.text.now) _ refl c.in_ok-push_str.ensures.bytes (ap (flat_map f) (counting_all 1 w.setting.members))

pub loop-i-preserved : goal.loop-i-preserved
loop-i-preserved c =
    let w = c.args.world.now.rehearsal in
    let f = heard_values w c.args.member in
    let i = c.loop-i.i in
    let within : i < w.setting.members = omega arith in
    let split = counting_next (i + 1) w.setting.members i within in
    elim c.match-heard_from.branch [
      | in-Some+in_ok-push_separator+in_ok-push_heard x ↦
          rw (x.text-is, x.later-is) (flat_one _ _ (i + 1) split _ _ _ f _ _ _ c.loop-i.invariant
          (ap (heard_if (i + 1)) (sym x.in-Some.ensures)) x.in_ok-push_separator.ensures x.in_ok-push_heard.ensures)
      | in_default x ↦
          rw (x.text-is, x.later-is) (flat_none _ _ (i + 1) split _ _ _ f c.loop-i.invariant
          (ap (heard_if (i + 1)) (sym x.in_default.ensures)))
    ]

pub returns : goal.returns
returns c =
    let w = c.args.world.now.rehearsal in
    flat_end c.push_str-2.result _ (counting_none (c.loop-i.i + 1) w.setting.members c.loop-i.i (omega arith)) _ _ _ _
    (heard_values w c.args.member) c.loop-i.invariant c.push_str-2.ensures.bytes
