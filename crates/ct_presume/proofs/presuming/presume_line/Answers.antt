use Rattle.ct_presume.proofs.GoingOn.{begun_more}
use Rattle.ct_presume.proofs.presuming.presume_line.Goals as goal

pub returns-clause-begun : goal.returns-clause-begun
returns-clause-begun c =
    begun_more c.args.merger.now.logs c.push.new.self.logs c.in-Some.member _ c.in_ok-push.ensures.here c.push.ensures.others
