use Rattle.ct_json.proofs.Common.{◌+◌, ◌-◌, ◌++◌, ◌<◌, ◌≤◌, ap, append-nil, append_assoc, arith, map, sym, ◌∙◌, string_bytes, counting}
use Rattle.ct_json.proofs.Common.{line_text, lines_text}
use Rattle.ct_names.specs.Group.{members}
use Rattle.ct_json.specs.JsonState.{member_value}
use Rattle.ct_json.proofs.Left.{counting_all, counting_next, counting_none}
use Rattle.ct_json.proofs.json_state.push_members.Goals as goal

pub loop-i-init : goal.loop-i-init
unfolding members
loop-i-init c =
    let w = c.args.world.now.rehearsal in
    let f = member_value w c.args.senders.now in
    ap (λ ns. string_bytes c.args.text.now ++ lines_text (map f ns)) (counting_all 1 w.setting.members)

pub loop-i-preserved : goal.loop-i-preserved
loop-i-preserved c =
    let w = c.args.world.now.rehearsal in
    let f = member_value w c.args.senders.now in
    let i = c.loop-i.i in
    let before = string_bytes c.loop-i.text in
    let within : i < w.setting.members = omega arith in
    let rest = lines_text (map f (counting (i + 1 + 1) (w.setting.members - (i + 1)))) in
    ap (λ t. t ++ rest) c.in_ok-push_member.ensures ∙ append_assoc before (line_text (f (i + 1))) rest
    ∙ ap (λ ns. before ++ lines_text (map f ns)) (sym (counting_next (i + 1) w.setting.members i within)) ∙ c.loop-i.invariant

pub returns : goal.returns
returns c =
    let w = c.args.world.now.rehearsal in
    let f = member_value w c.args.senders.now in
    let i = c.loop-i.i in
    let now = string_bytes c.loop-i.text in
    let all : w.setting.members ≤ i = omega arith in
    sym (append-nil now) ∙ ap (λ ns. now ++ lines_text (map f ns)) (sym (counting_none (i + 1) w.setting.members i all))
    ∙ c.loop-i.invariant
