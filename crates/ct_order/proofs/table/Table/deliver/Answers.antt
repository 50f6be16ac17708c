use Rattle.std.proofs.Common.{sym}
use Rattle.std.proofs.lemmas.Result.{IfOk-weaker}
use Rattle.ct_order.specs.Knowing.{is_said}
use Rattle.ct_order.proofs.Learning.{tells_kept}
use Rattle.ct_order.proofs.table.Table.deliver.Goals as goal

pub returns-in-Some : goal.returns-in-Some
returns-in-Some c =
    IfOk-weaker c.differing.result _ _
    (λ r m. (tells_kept c.args.self.now (is_said c.args.line) c.in-Some.told.now r m).0 c.requires (sym c.in-Some.ensures.value))
    c.differing.ensures
