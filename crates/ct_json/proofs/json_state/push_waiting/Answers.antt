use Rattle.ct_json.proofs.Common.{◌+◌, ◌++◌, ap, arith, get_or, lt-ltb, map, refl, ◌∙◌, codes, string_bytes, drop_all, compact_text}
use Rattle.ct_json.proofs.Common.{envelope_by, waiting_value}
use Rattle.json.proofs.OnLiterals.{json_on_literals}
use Rattle.ct_json.specs.JsonState.{waiting_fields}
use Rattle.ct_json.proofs.Left.{drop_or, field_left, map_end, map_one}
use Rattle.ct_json.proofs.json_state.push_waiting.Goals as goal

pub loop-i-init : goal.loop-i-init
unfolding waiting_fields json_on_literals
loop-i-init c =
    field_left (codes "waiting") (codes ",\"waiting\":[") _
    (map (waiting_value c.args.world.now.rehearsal c.args.senders.now) c.args.line.now) (string_bytes c.args.text.now) _ refl
    c.in_ok-push_str.ensures.bytes refl

pub loop-i-preserved : goal.loop-i-preserved
loop-i-preserved c =
    let w = c.args.world.now.rehearsal in
    let senders = c.args.senders.now in
    let i = c.loop-i.i in
    let k = get_or c.args.line.now i 0 in
    let before = string_bytes c.push_separator.new.text in
    rw (lt-ltb 0 (i + 1) (omega arith)) (map_one _ _ k (drop_or c.args.line.now i 0 c.loop-i-test.true) _ _ _ (waiting_value w senders)
    before _ c.loop-i.invariant c.in_ok-push_separator.ensures
    (c.in_ok-push_envelope.ensures ∙ ap (λ s. before ++ compact_text (envelope_by s w k)) c.sender_at.ensures))

pub returns : goal.returns
returns c =
    map_end c.push_str-2.result _ (drop_all c.loop-i.i c.args.line.now c.loop-i-test.false) _ _ _ _
    (waiting_value c.args.world.now.rehearsal c.args.senders.now) c.loop-i.invariant c.push_str-2.ensures.bytes
