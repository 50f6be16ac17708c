use Rattle.ct_records.proofs.Lexemes.{if_some}
use Rattle.ct_records.proofs.Fronts.{name_behind}
use Rattle.ct_records.proofs.scan.spaced.name.Goals as goal

pub returns : goal.returns
returns c =
    if_some _ _ c.letters.result
    (λ r is. name_behind c.args.bytes.now c.in_ok-mark.field-0.now r.0.now r.1.now c.in_ok-mark.ensures is) c.letters.ensures
