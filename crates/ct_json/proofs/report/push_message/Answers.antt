use Rattle.ct_json.proofs.Common.{ap, ◌++◌, codes, string_bytes, message_text}
use Rattle.json.proofs.OnLiterals.{json_on_literals}
use Rattle.ct_json.proofs.Fields.{quoted_is, then_same}
use Rattle.ct_json.proofs.Texts.{message_plain}
use Rattle.ct_json.proofs.report.push_message.Goals as goal

pub returns : goal.returns
unfolding json_on_literals
returns c =
    then_same c.write.result (string_bytes c.args.text.now) _ _ _
    (ap (λ t. codes ",\"message\":" ++ t) (quoted_is (message_text c.args.message) (message_plain c.args.message))) c.write.ensures.bytes
