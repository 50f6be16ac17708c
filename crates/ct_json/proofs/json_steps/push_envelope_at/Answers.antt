use Rattle.ct_json.proofs.Common.{[], ◌∷◌, codes, string_bytes, compact_text, pushed_last, envelope_value}
use Rattle.json.proofs.OnLiterals.{json_on_literals}
use Rattle.ct_json.proofs.json_steps.push_envelope_at.Goals as goal

pub returns : goal.returns
unfolding json_on_literals
returns c =
    pushed_last c.push_envelope.result (codes ",\"envelope\":" ∷ [])
    (compact_text (envelope_value c.args.world.now.rehearsal c.args.serial))
    (string_bytes c.args.text.now) _ _ c.in_ok-push_str.ensures.bytes c.push_envelope.ensures
