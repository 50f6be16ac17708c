use Rattle.ct_json.proofs.Common.{refl, List, [], ◌∷◌, ◌++◌, codes, decimal, string_bytes, num, pushed_value, Field, sender_fields}
use Rattle.ct_json.proofs.Common.{carried_fields}
use Rattle.json.proofs.OnLiterals.{json_on_literals}
use Rattle.ct_json.specs.JsonEnvelopes.{envelope_by}
use Rattle.ct_json.proofs.Fields.{then_closed, then_fields, then_opened}
use Rattle.ct_json.proofs.json_envelopes.push_envelope.Goals as goal

pub returns : goal.returns
unfolding envelope_by json_on_literals
returns c =
    let k = c.args.serial in
    let old = string_bytes c.args.text.now in
    let serial : List Field = (codes "serial", num k) ∷ [] in
    let carried = carried_fields c.args.world.now.rehearsal k in
    let sender = sender_fields c.args.sender in
    then_closed c.push_str.result (serial ++ (carried ++ sender)) old _ _
    (then_opened serial (carried ++ sender) old _ _ refl
    (pushed_value (codes "{\"serial\":") (decimal k) old _ c.in_ok-write.ensures.bytes)
    (then_fields carried sender _ _ _ c.in_ok-push_carried.ensures c.in_ok-push_sender.ensures)) c.push_str.ensures.bytes
