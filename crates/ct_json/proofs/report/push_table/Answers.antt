use Rattle.ct_json.proofs.Common.{arith, map, refl, codes, string_bytes, counting, register_value}
use Rattle.json.proofs.OnLiterals.{json_on_literals}
use Rattle.ct_json.specs.Json.{table_fields}
use Rattle.ct_json.proofs.Left.{counting_next, counting_none, field_left, map_end, map_one}
use Rattle.ct_json.proofs.report.push_table.Goals as goal

pub loop-register-init : goal.loop-register-init
unfolding table_fields json_on_literals
loop-register-init c =
    field_left (codes "table") (codes ",\"table\":[") _ (map (register_value c.args.table.now) (counting 0 16))
    (string_bytes c.args.text.now)
    _ refl c.in_ok-push_str.ensures.bytes refl

pub loop-register-preserved : goal.loop-register-preserved
loop-register-preserved c =
    let k = c.loop-register.register in
    map_one _ _ k (counting_next k 16 k c.loop-register-test.true) _ _ _ (register_value c.args.table.now) _ _ c.loop-register.invariant
    c.in_ok-push_separator.ensures c.in_ok-push_register.ensures

pub returns : goal.returns
returns c =
    let k = c.loop-register.register in
    map_end c.push_str-2.result _ (counting_none k 16 k (omega arith)) _ _ _ _ (register_value c.args.table.now)
    c.loop-register.invariant c.push_str-2.ensures.bytes
