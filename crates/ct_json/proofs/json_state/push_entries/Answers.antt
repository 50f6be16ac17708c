use Rattle.ct_json.proofs.Common.{◌+◌, ◌++◌, ap, arith, lt-ltb, map, refl, ◌∙◌, string_bytes, drop_all, step_data}
use Rattle.ct_json.proofs.Left.{array_left, first_step, map_end, map_one, steps_next}
use Rattle.ct_json.proofs.Texts.{step_same}
use Rattle.ct_json.proofs.json_state.push_entries.Goals as goal

pub loop-i-init : goal.loop-i-init
loop-i-init c =
    array_left _ (map step_data c.args.steps.now) (string_bytes c.args.text.now) _ c.in_ok-push_str.ensures.bytes refl

pub loop-i-preserved : goal.loop-i-preserved
loop-i-preserved c =
    let i = c.loop-i.i in
    let x = first_step c.args.steps.now i in
    let before = string_bytes c.push_separator.new.text in
    rw (lt-ltb 0 (i + 1) (omega arith)) (map_one _ _ x (steps_next c.args.steps.now i c.loop-i-test.true) _ _ _ step_data before _
    c.loop-i.invariant c.in_ok-push_separator.ensures (c.in_ok-write.ensures.bytes ∙ ap (λ t. before ++ t) (step_same x)))

pub returns : goal.returns
returns c =
    map_end c.push_str-2.result _ (drop_all c.loop-i.i c.args.steps.now c.loop-i-test.false) _ _ _ _ step_data c.loop-i.invariant
    c.push_str-2.ensures.bytes
