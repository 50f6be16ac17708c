use Rattle.ct_records.proofs.Fronts.{entry_reads}
use Rattle.ct_records.proofs.scan.spaced.entry.Goals as goal

pub returns : goal.returns
returns c =
    entry_reads c.args.bytes.now c.in_ok-mark.field-0.now c.in_ok-name.rest.now c.in_ok-mark-2.field-0.now c.in_ok-first.rest.now
    c.in_ok-name.name.now c.in_ok-first.first c.in_ok-mark.ensures c.in_ok-name.ensures c.in_ok-mark-2.ensures c.in_ok-first.ensures.text
