use Rattle.ct_records.proofs.Lexemes.{if_some}
use Rattle.ct_records.proofs.Fronts.{mark_comma, reads_none}
use Rattle.ct_records.proofs.scan.spaced.behind_another.Goals as goal

pub returns-then-later : goal.returns-then-later
returns-then-later c = rw c.if-later.true (if_some _ _ c.mark.result (λ rest h. mark_comma c.args.bytes.now rest.now h) c.mark.ensures)

pub returns-else-later : goal.returns-else-later
returns-else-later c = rw c.if-later.false (reads_none c.args.bytes.now)
