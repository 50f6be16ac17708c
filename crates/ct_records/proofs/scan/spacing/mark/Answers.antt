use Rattle.ct_records.proofs.Fronts.{mark_behind}
use Rattle.ct_records.proofs.scan.spacing.mark.Goals as goal

pub returns : goal.returns
returns c =
    mark_behind c.args.bytes.now c.after_white.result.now c.in_ok-rest.rest.now c.args.byte c.after_white.ensures c.in_ok-rest.ensures
