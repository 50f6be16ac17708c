use Rattle.ct_records.proofs.Common.{◌++◌, ◌∙◌, ap, codes, Receive, Postpone}
use Rattle.ct_records.proofs.Steps.{named_reads}
use Rattle.ct_records.proofs.scan.quick.spaced_name.Goals as goal

pub returns-in-Some : goal.returns-in-Some
returns-in-Some c =
    let name = c.in-Some.ensures ∙ ap (λ t. codes "\"receive" ++ t) c.in_ok-behind_two.ensures in
    named_reads c.args.bytes.now c.in_ok-behind.field-0.now c.after_white-start.result.now c.in_ok-behind-2.field-0.now
    c.after_white-name.result.now c.in_ok-behind_two.field-0.now Receive c.in_ok-behind.ensures c.after_white-start.ensures
    c.in_ok-behind-2.ensures c.after_white-name.ensures name

pub returns : goal.returns
returns c =
    let last = c.in_ok-rest-2.ensures ∙ ap (λ t. codes "e\"" ++ t) c.in_ok-behind-3.ensures in
    let name = c.in_ok-rest.ensures ∙ ap (λ t. codes "\"postpon" ++ t) last in
    named_reads c.args.bytes.now c.in_ok-behind.field-0.now c.after_white-start.result.now c.in_ok-behind-2.field-0.now
    c.after_white-name.result.now c.in_ok-behind-3.field-0.now Postpone c.in_ok-behind.ensures c.after_white-start.ensures
    c.in_ok-behind-2.ensures c.after_white-name.ensures name
