use Rattle.ct_json.proofs.Common.{◌≡◌, ◌+◌, ◌-◌, ◌<◌, ap₂, arith, length, map, refl, codes, string_bytes, counting, state_of}
use Rattle.ct_json.proofs.Common.{envelope_value}
use Rattle.json.proofs.OnLiterals.{json_on_literals}
use Rattle.ct_json.specs.JsonEnvelopes.{sent_fields}
use Rattle.ct_json.proofs.Left.{counting_next, counting_none, field_left, map_end, map_one}
use Rattle.ct_json.proofs.json_envelopes.push_sent_at.Goals as goal

pub loop-i-init : goal.loop-i-init
unfolding sent_fields json_on_literals
loop-i-init c =
    let w = c.args.world.now.rehearsal in
    let before = c.args.before in
    let count = length (state_of w).sent - before in
    let first : before + 0 + 1 ≡ before + 1 = omega arith in
    let all : count - 0 ≡ count = omega arith in
    field_left (codes "sent") (codes ",\"sent\":[") _ (map (envelope_value w) (counting (before + 1) count))
    (string_bytes c.args.text.now) _ refl c.in_ok-push_str.ensures.bytes (ap₂ (λ k n. map (envelope_value w) (counting k n)) first all)

pub loop-i-preserved : goal.loop-i-preserved
loop-i-preserved c =
    let w = c.args.world.now.rehearsal in
    let before = c.args.before in
    let i = c.loop-i.i in
    let count = length (state_of w).sent - before in
    let within : i < count = omega arith in
    let next : before + i + 1 + 1 ≡ before + (i + 1) + 1 = omega arith in
    rw (← next) (map_one _ _ (before + i + 1) (counting_next (before + i + 1) count i within) _ _ _
    (envelope_value w) _ _ c.loop-i.invariant
    c.in_ok-push_separator.ensures c.in_ok-push_envelope.ensures)

pub returns : goal.returns
returns c =
    let w = c.args.world.now.rehearsal in
    let i = c.loop-i.i in
    let count = length (state_of w).sent - c.args.before in
    map_end c.push_str-2.result _ (counting_none (c.args.before + i + 1) count i (omega arith)) _ _ _ _ (envelope_value w)
    c.loop-i.invariant c.push_str-2.ensures.bytes
