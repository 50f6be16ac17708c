use Rattle.ct_json.proofs.Common.{ap, ◌++◌, codes, decimal, string_bytes, step_entry}
use Rattle.json.proofs.OnLiterals.{json_on_literals}
use Rattle.ct_model.specs.Actor.{actor}
use Rattle.ct_json.specs.JsonSteps.{head_fields}
use Rattle.ct_json.proofs.Fields.{quoted_is, then_same}
use Rattle.ct_json.proofs.Texts.{name_plain}
use Rattle.ct_json.proofs.json_steps.push_head.Goals as goal

pub returns : goal.returns
unfolding head_fields json_on_literals
returns c =
    let step = c.args.step in
    then_same c.write.result (string_bytes c.args.text.now) _ _ _
    (ap (λ t. codes "{\"number\":" ++ (decimal c.args.number
    ++ (codes ",\"member\":" ++ (decimal (actor step) ++ (codes ",\"step\":" ++ t)))))
    (quoted_is (step_entry step).name (name_plain step)))
    (rw (c.member-member.ensures, c.name_of-name.ensures) at c.write.ensures.bytes)
