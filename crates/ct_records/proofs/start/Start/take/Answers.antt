use Rattle.ct_records.proofs.Common.{◌≡◌, ◌∙◌, ap, subst, sym, take, IsHead, IsAscii}
use Rattle.ct_records.proofs.Utf8.{ascii_valid}
use Rattle.ct_records.proofs.start.Start.take.Goals as goal

pub returns-clause-start : goal.returns-clause-start
returns-clause-start c =
    let text = c.in_ok-text.text.items in
    let same : take c.in-Some.used c.deref.result.now ≡ text =
    ap (take c.in-Some.used) c.deref.ensures.value ∙ sym c.in_ok-text.ensures.first in
    record {
      head = subst (λ t. IsHead t c.in-Some.numbers) same c.in-Some.ensures.head;
      valid = ascii_valid text (subst IsAscii same c.in-Some.ensures.ascii);
    }
