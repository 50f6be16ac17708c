use Rattle.std.proofs.Common.{rules}
use Rattle.ct_views.proofs.Reports.{other_name}
use Rattle.ct_views.proofs.checking.report_name.Goals as goal

pub returns-in-None : goal.returns-in-None
returns-in-None c = rw (← other_name c.args.name.now c.in-None.ensures.cases) (search rules)
