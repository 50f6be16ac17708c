use Rattle.std.proofs.Common.{◌≡◌, length, sym, subst, arith}
use Rattle.std.proofs.lemmas.List.{with_items_is}
use Rattle.ct_logs.specs.Sets.{AreFirstLines}
use Rattle.ct_logs.proofs.presumed.cut_all.Goals as goal

pub returns : goal.returns
returns c =
    let old = c.args.logs.now in
    let new = c.cut_as_read.new.logs in
    let same : length new ≡ old.len = omega arith in
    subst (λ l. AreFirstLines l old.items) (sym (with_items_is old new same))
    (subst (λ l. AreFirstLines new l) c.deref_mut.ensures.value c.cut_as_read.ensures)
