use Rattle.ct_json.proofs.Common.{[], ◌∷◌, codes, decimal, string_bytes, compact_text, messages_value, pushed_more, pushed_str}
use Rattle.json.proofs.OnLiterals.{json_on_literals}
use Rattle.ct_json.specs.Json.{decision_value}
use Rattle.ct_json.proofs.report.push_decision.Goals as goal

pub returns : goal.returns
unfolding decision_value json_on_literals
returns c =
    let head = codes "{\"instance\":" ∷ decimal c.args.instance ∷ codes ",\"messages\":" ∷ [] in
    let value = compact_text (messages_value c.args.messages.now) in
    pushed_str c.push_str.result (codes "{\"instance\":" ∷ decimal c.args.instance ∷ codes ",\"messages\":" ∷ value ∷ []) (codes "}")
    (string_bytes c.args.text.now) _ _
    (pushed_more head value (string_bytes c.args.text.now) _ _ c.in_ok-write.ensures.bytes c.in_ok-push_messages.ensures)
    c.push_str.ensures.bytes
