use Rattle.ct_json.proofs.Common.{ap, append_assoc, sym, [], ◌∷◌, ◌++◌, codes, decimal, string_bytes, compact_text, pushed_last}
use Rattle.ct_json.proofs.Common.{pushed_more, messages_value}
use Rattle.json.proofs.OnLiterals.{json_on_literals}
use Rattle.ct_json.specs.Json.{messages_at}
use Rattle.ct_json.specs.JsonEnvelopes.{estimate_field, estimate_fields}
use Rattle.ct_json.proofs.Fields.{then_same}
use Rattle.ct_json.proofs.json_envelopes.push_estimate_at.Goals as goal

pub returns-in_ok-push_messages-in-Some : goal.returns-in_ok-push_messages-in-Some
unfolding estimate_field estimate_fields messages_at json_on_literals
returns-in_ok-push_messages-in-Some c =
    let old = string_bytes c.args.text.now in
    let head = codes ",\"estimate\":{\"value\":" in
    let value = compact_text (messages_value c.in-Some.value.now) in
    let last = codes ",\"timestamp\":" ++ (decimal c.in-Some.ts ++ codes "}") in
    rw c.in-Some.is (then_same c.write.result old _ _ _ (ap (λ t. head ++ t) (sym (append_assoc value last [])))
    (pushed_last c.write.result (head ∷ value ∷ []) last old _ _
    (pushed_more (head ∷ []) value old _ _ c.in_ok-push_str-in-Some.ensures.bytes c.in_ok-push_messages-in-Some.ensures)
    c.write.ensures.bytes))
