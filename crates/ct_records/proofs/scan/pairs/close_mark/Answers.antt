use Rattle.ct_records.proofs.Fronts.{mark_first}
use Rattle.ct_records.proofs.scan.pairs.close_mark.Goals as goal

pub returns-in-Some : goal.returns-in-Some
returns-in-Some c = mark_first c.args.bytes.now c.in-Some.rest.now c.args.byte c.in-Some.ensures
