use Rattle.ct_json.proofs.Common.{refl, codes, flat_map, string_bytes, drop_all, refusal_value, refusal_values}
use Rattle.json.proofs.OnLiterals.{json_on_literals}
use Rattle.ct_json.specs.JsonState.{refused_fields}
use Rattle.ct_json.proofs.Left.{field_left, first_step, flat_end, flat_none, flat_one, steps_next}
use Rattle.ct_json.proofs.json_state.push_refused.Goals.{in-Some+in_ok-push_separator+in_ok-push_refusal, in_default}
use Rattle.ct_json.proofs.json_state.push_refused.Goals as goal

pub loop-step-init : goal.loop-step-init
unfolding refused_fields json_on_literals
loop-step-init c =
    field_left (codes "refused") (codes ",\"refused\":[") _ (flat_map (refusal_values c.args.world.now.rehearsal) c.args.steps.now)
    (string_bytes c.args.text.now) _ refl c.in_ok-push_str.ensures.bytes refl

pub loop-step-preserved : goal.loop-step-preserved
loop-step-preserved c =
    let f = refusal_values c.args.world.now.rehearsal in
    let xs = c.args.steps.now in
    let i = c.loop-step.step-index in
    let x = first_step xs i in
    let split = steps_next xs i c.loop-step-test.true in
    elim c.match-told_refusal.branch [
      | in-Some+in_ok-push_separator+in_ok-push_refusal b ↦
          rw (b.text-is, b.later-is) (flat_one _ _ x split _ _ _ f (refusal_value x b.in-Some.refusal) _ _ c.loop-step.invariant
          (rw (← b.in-Some.ensures) refl) b.in_ok-push_separator.ensures b.in_ok-push_refusal.ensures)
      | in_default b ↦
          rw (b.text-is, b.later-is) (flat_none _ _ x split _ _ _ f c.loop-step.invariant (rw (← b.in_default.ensures) refl))
    ]

pub returns : goal.returns
returns c =
    flat_end c.push_str-2.result _ (drop_all c.loop-step.step-index c.args.steps.now c.loop-step-test.false) _ _ _ _
    (refusal_values c.args.world.now.rehearsal) c.loop-step.invariant c.push_str-2.ensures.bytes
