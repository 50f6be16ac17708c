use Rattle.ct_json.proofs.Common.{ap, ◌++◌, codes, decimal, string_bytes, phase_text}
use Rattle.json.proofs.OnLiterals.{json_on_literals}
use Rattle.ct_json.specs.JsonParts.{phase_fields}
use Rattle.ct_json.proofs.Fields.{quoted_is, then_same}
use Rattle.ct_json.proofs.Texts.{phase_plain}
use Rattle.ct_json.proofs.json_parts.push_phase.Goals as goal

pub returns : goal.returns
unfolding phase_fields json_on_literals
returns c =
    then_same c.write.result (string_bytes c.args.text.now) _ _ _
    (ap (λ t. codes ",\"round\":" ++ (decimal c.args.round ++ (codes ",\"phase\":" ++ t)))
    (quoted_is (phase_text c.args.phase) (phase_plain c.args.phase))) (rw c.phase_name-name.ensures at c.write.ensures.bytes)
