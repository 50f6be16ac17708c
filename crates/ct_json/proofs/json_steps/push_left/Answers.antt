use Rattle.ct_json.proofs.Common.{ap, append-nil, sym, ◌∙◌, [], ◌∷◌, ◌++◌, codes, decimal, string_bytes, compact_text, num, step_data}
use Rattle.ct_json.proofs.Common.{object_of}
use Rattle.json.proofs.OnLiterals.{json_on_literals}
use Rattle.ct_json.proofs.Fields.{then_same}
use Rattle.ct_json.proofs.Texts.{step_same}
use Rattle.ct_json.proofs.json_steps.push_left.Goals as goal

pub returns-in-Some : goal.returns-in-Some
unfolding json_on_literals
returns-in-Some c =
    let k = c.in-Some.number in
    let step = c.in-Some.step in
    let value = object_of ((codes "number", num k) ∷ (codes "entry", step_data step) ∷ []) in
    rw c.in-Some.is (then_same c.write.result (string_bytes c.args.text.now) _ _ _
    (ap (λ t. codes ",\"left\":{\"number\":" ++ (decimal k ++ (codes ",\"entry\":" ++ (t ++ codes "}")))) (step_same step)
    ∙ ap (λ t. codes ",\"left\":" ++ t) (sym (append-nil (compact_text value)))) c.write.ensures.bytes)
