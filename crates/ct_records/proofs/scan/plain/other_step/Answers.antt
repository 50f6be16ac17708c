use Rattle.ct_records.proofs.Lexemes.{if_some}
use Rattle.ct_records.proofs.Steps.{another_reads}
use Rattle.ct_records.proofs.scan.plain.other_step.Goals as goal

pub returns-in-Some : goal.returns-in-Some
returns-in-Some c =
    another_reads c.args.later c.args.bytes.now c.in_ok-start.start.now c.in-Some.found.1.now c.in-Some.found.0 c.in_ok-start.ensures
    c.in-Some.ensures

pub returns-in-None : goal.returns-in-None
returns-in-None c =
    if_some _ _ c.spaced_step.result
    (λ r h. another_reads c.args.later c.args.bytes.now c.in_ok-start.start.now r.1.now r.0 c.in_ok-start.ensures h) c.spaced_step.ensures
