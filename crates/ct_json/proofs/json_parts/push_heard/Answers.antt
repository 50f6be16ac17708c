use Rattle.ct_json.proofs.Common.{refl, List, [], ◌∷◌, ◌++◌, codes, decimal, string_bytes, num, pushed_value, Field, estimate_fields}
use Rattle.json.proofs.OnLiterals.{json_on_literals}
use Rattle.ct_json.specs.JsonParts.{heard_value}
use Rattle.ct_json.proofs.Fields.{then_closed, then_opened}
use Rattle.ct_json.proofs.json_parts.push_heard.Goals as goal

pub returns : goal.returns
unfolding heard_value json_on_literals
returns c =
    let old = string_bytes c.args.text.now in
    let from : List Field = (codes "member", num c.args.from) ∷ [] in
    let estimate = estimate_fields c.args.value.now c.args.ts in
    then_closed c.push_str.result (from ++ estimate) old _ _
    (then_opened from estimate old _ _ refl
    (pushed_value (codes "{\"member\":") (decimal c.args.from) old _ c.in_ok-write.ensures.bytes) c.in_ok-push_estimate.ensures)
    c.push_str.ensures.bytes
