use Rattle.ct_json.proofs.Common.{◌+◌, ◌++◌, ap, arith, lt-ltb, map, refl, sym, ◌∙◌, string_bytes, drop_all, message_value}
use Rattle.ct_json.specs.Json.{messages_value}
use Rattle.ct_json.proofs.Left.{array_left, drop_next, map_end, map_one}
use Rattle.ct_json.proofs.Texts.{message_plain}
use Rattle.ct_json.proofs.report.push_messages.Goals as goal

pub loop-i-init : goal.loop-i-init
unfolding messages_value
loop-i-init c = array_left _ (map message_value c.args.messages.now) (string_bytes c.args.text.now) _ c.in_ok-push_str.ensures.bytes refl

pub loop-i-preserved : goal.loop-i-preserved
loop-i-preserved c =
    let x = c.index-messages-i.result in
    let i = c.loop-i.i in
    let before = string_bytes c.push_separator.new.text in
    rw (lt-ltb 0 (i + 1) (omega arith)) (map_one _ _ x
    (drop_next c.args.messages.now i x c.loop-i-test.true c.index-messages-i.is) _ _ _ message_value before _ c.loop-i.invariant
    c.in_ok-push_separator.ensures (c.in_ok-write.ensures.bytes ∙ ap (λ t. before ++ t) (sym (message_plain x))))

pub returns : goal.returns
returns c =
    map_end c.push_str-2.result _ (drop_all c.loop-i.i c.args.messages.now c.loop-i-test.false) _ _ _ _ message_value c.loop-i.invariant
    c.push_str-2.ensures.bytes
