use Rattle.ct_records.proofs.Common.{sym, subst, IsHead}
use Rattle.ct_records.proofs.Fronts.{first_is}
use Rattle.ct_records.proofs.start.measured.Goals as goal

pub returns-then-is_ascii-clause-head : goal.returns-then-is_ascii-clause-head
returns-then-is_ascii-clause-head c =
    let h = c.in_ok-numbers.ensures in
    subst (λ t. IsHead t c.in_ok-numbers.numbers) (sym (first_is c.args.bytes.now h.text c.in_ok-numbers.rest.now h.split)) h.head
