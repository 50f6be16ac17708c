use Rattle.std.proofs.Common.{◌++◌, ◌∙◌, ap, codes}
use Rattle.ct_records.proofs.Steps.{submit_reads}
use Rattle.ct_records.proofs.scan.plain.submission.Goals as goal

pub returns : goal.returns
returns c =
    submit_reads c.args.bytes.now c.in_ok-mark.field-0.now c.after_white-name.result.now c.in_ok-rest.rest.now c.in_ok-p.rest.now
    c.in_ok-behind.field-0.now c.in_ok-command.rest.now c.in_ok-mark-2.field-0.now c.in_ok-p.p c.in_ok-command.command c.in_ok-mark.ensures
    c.after_white-name.ensures (c.in_ok-behind_eight.ensures ∙ ap (λ t. codes "\"submit\"" ++ t) c.in_ok-rest.ensures)
    c.in_ok-p.ensures.text c.in_ok-behind.ensures c.in_ok-command.ensures c.in_ok-mark-2.ensures
