use Rattle.ct_records.proofs.Common.{true, subst, sym, ReadsStep}
use Rattle.ct_records.proofs.Steps.{named_step}
use Rattle.ct_records.proofs.scan.quick.quick_step.Goals as goal

pub returns : goal.returns
returns c =
    subst (λ s. ReadsStep true c.args.bytes.now s c.in_ok-p.rest.now) (sym c.step.ensures)
    (named_step c.args.bytes.now c.in_ok-kind.rest.now c.in_ok-p.rest.now c.in_ok-kind.kind c.in_ok-p.p c.in_ok-p.serial
    c.in_ok-kind.ensures c.in_ok-p.ensures)
