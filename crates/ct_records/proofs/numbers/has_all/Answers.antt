use Rattle.ct_records.proofs.Written.{is_known}
use Rattle.ct_records.proofs.numbers.has_all.Goals as goal

pub returns-then-version-eq-LATEST : goal.returns-then-version-eq-LATEST
returns-then-version-eq-LATEST c = rw c.if-version-eq-LATEST.true (λ _ k d lt. is_known _)
