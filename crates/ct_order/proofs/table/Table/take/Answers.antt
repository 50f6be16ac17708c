use Rattle.ct_order.specs.Knowing.{is_said}
use Rattle.ct_order.proofs.Learning.{tells_as, tells_back}
use Rattle.ct_order.proofs.table.Table.take.Goals as goal

pub returns-in-From : goal.returns-in-From
returns-in-From c =
    tells_back c.args.self.now (is_said c.args.line) c.in-From.count c.in-From.is c.backwards.result c.backwards.ensures

pub returns-in-Restart : goal.returns-in-Restart
returns-in-Restart c = tells_as c.args.self.now (is_said c.args.line) _ c.in-Restart.is tt

pub returns-in-Crash : goal.returns-in-Crash
returns-in-Crash c = tells_as c.args.self.now (is_said c.args.line) _ c.in-Crash.is tt

pub returns-in-End : goal.returns-in-End
returns-in-End c = tells_as c.args.self.now (is_said c.args.line) _ c.in-End.is tt
