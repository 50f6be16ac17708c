use Rattle.ct_json.proofs.Common.{[], ◌∷◌, ◌++◌, codes, decimal, string_bytes, compact_text, messages_value, pushed_last}
use Rattle.json.proofs.OnLiterals.{json_on_literals}
use Rattle.ct_json.specs.Json.{messages_at}
use Rattle.ct_json.specs.JsonEnvelopes.{estimate_fields}
use Rattle.ct_json.proofs.json_envelopes.push_estimate.Goals as goal

pub returns : goal.returns
unfolding estimate_fields messages_at json_on_literals
returns c =
    pushed_last c.write.result (codes ",\"value\":" ∷ compact_text (messages_value c.args.value.now) ∷ [])
    (codes ",\"timestamp\":" ++ decimal c.args.ts) (string_bytes c.args.text.now) _ _ c.in_ok-push_messages_at.ensures c.write.ensures.bytes
