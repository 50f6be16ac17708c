use Rattle.ct_records.proofs.Lexemes.{if_some}
use Rattle.ct_records.proofs.Fronts.{mark_begins}
use Rattle.ct_records.proofs.head.all_numbers.Goals as goal

pub returns : goal.returns
returns c =
    let after = c.in_ok-mark.field-0.now in
    if_some _ _ c.with_later.result
    (λ all h. record { after = after; begins = mark_begins c.args.bytes.now after 93 c.in_ok-mark.ensures; rest = h }) c.with_later.ensures
