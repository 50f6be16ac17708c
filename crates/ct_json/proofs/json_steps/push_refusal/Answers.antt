use Rattle.ct_json.proofs.Common.{ap, ◌++◌, codes, string_bytes, refusal_text}
use Rattle.json.proofs.OnLiterals.{json_on_literals}
use Rattle.ct_json.specs.JsonSteps.{refusal_fields}
use Rattle.ct_json.proofs.Fields.{quoted_is, then_same}
use Rattle.ct_json.proofs.Texts.{refusal_plain}
use Rattle.ct_json.proofs.json_steps.push_refusal.Goals as goal

pub returns : goal.returns
unfolding refusal_fields json_on_literals
returns c =
    then_same c.write.result (string_bytes c.args.text.now) _ _ _
    (ap (λ t. codes ",\"refusal\":" ++ t) (quoted_is (refusal_text c.args.refusal) (refusal_plain c.args.refusal))) c.write.ensures.bytes
