use Rattle.ct_records.proofs.Common.{◌++◌, ◌∙◌, ap, codes, Receive, Postpone}
use Rattle.ct_records.proofs.Steps.{close_named}
use Rattle.ct_records.proofs.scan.quick.close_name.Goals as goal

pub returns-in-Some : goal.returns-in-Some
returns-in-Some c =
    close_named c.args.bytes.now c.in_ok-behind_four.field-0.now Receive
    (c.in-Some.ensures ∙ ap (λ t. codes ",[\"recei" ++ t) c.in_ok-behind_four.ensures)

pub returns : goal.returns
returns c =
    close_named c.args.bytes.now c.in_ok-behind.field-0.now Postpone
    (c.in_ok-rest.ensures ∙ ap (λ t. codes ",[\"postp" ++ t) (c.in_ok-rest-2.ensures ∙ ap (λ t. codes "one\"" ++ t) c.in_ok-behind.ensures))
