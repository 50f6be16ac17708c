use Rattle.ct_json.proofs.Common.{ap, ap₂, append_assoc, sym, ◌∙◌, ◌∷◌, ◌++◌, codes, string_bytes, refusal_text}
use Rattle.json.proofs.OnLiterals.{json_on_literals}
use Rattle.ct_json.specs.JsonState.{refusal_value}
use Rattle.ct_json.proofs.Fields.{then_same}
use Rattle.ct_json.proofs.Texts.{refusal_plain, step_same}
use Rattle.ct_json.proofs.json_state.push_refusal.Goals as goal

pub returns : goal.returns
unfolding refusal_value json_on_literals
returns c =
    let text = refusal_text c.args.refusal in
    then_same c.write.result (string_bytes c.args.text.now) _ _ _
    (ap₂ (λ t u. codes "{\"entry\":" ++ (t ++ (codes ",\"refusal\":" ++ u))) (step_same c.args.step)
    (ap (λ t. 34 ∷ t) (sym (append_assoc text (codes "\"") (codes "}")))
    ∙ ap (λ t. t ++ codes "}") (sym (refusal_plain c.args.refusal)))) c.write.ensures.bytes
