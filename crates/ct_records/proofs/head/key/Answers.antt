use Rattle.ct_records.proofs.Fronts.{key_behind}
use Rattle.ct_records.proofs.head.key.Goals as goal

pub returns : goal.returns
returns c =
    key_behind c.args.bytes.now c.in_ok-key.rest.now c.in_ok-key.key.now c.in_ok-mark.field-0.now c.in_ok-key.ensures c.in_ok-mark.ensures
