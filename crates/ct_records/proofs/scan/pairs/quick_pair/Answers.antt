use Rattle.ct_records.proofs.Fronts.{pair_reads}
use Rattle.ct_records.proofs.scan.pairs.quick_pair.Goals as goal

pub returns : goal.returns
returns c =
    pair_reads c.args.bytes.now c.in_ok-p.rest.now c.in_ok-close_mark.field-0.now c.in_ok-serial.rest.now c.in_ok-rest.rest.now
    c.in_ok-p.p c.in_ok-serial.serial c.in_ok-p.ensures.text c.in_ok-close_mark.ensures c.in_ok-serial.ensures.text c.in_ok-rest.ensures
