use Rattle.ct_records.proofs.Lexemes.{if_some}
use Rattle.ct_records.proofs.Ended.{up_to_steps}
use Rattle.ct_records.proofs.head.head.Goals as goal

pub returns : goal.returns
returns c =
    if_some _ _ c.up_to_steps.result
    (λ r h. up_to_steps c.args.bytes.now c.in_ok-mark.field-0.now r.1.now r.0 c.in_ok-mark.ensures h) c.up_to_steps.ensures
