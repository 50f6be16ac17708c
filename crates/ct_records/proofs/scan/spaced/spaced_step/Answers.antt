use Rattle.ct_records.proofs.Lexemes.{if_some}
use Rattle.ct_records.proofs.Steps.{step_reads}
use Rattle.ct_records.proofs.scan.spaced.spaced_step.Goals as goal

pub returns : goal.returns
returns c =
    if_some _ _ c.step_of.result
    (λ r h.
    step_reads c.args.bytes.now c.in_ok-name.rest.now r.1.now c.in_ok-name.name.now c.in_ok-name.p r.0 c.in_ok-name.ensures h)
    c.step_of.ensures
