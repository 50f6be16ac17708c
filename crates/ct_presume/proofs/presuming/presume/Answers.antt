use Rattle.std.proofs.Common.{rules}
use Rattle.ct_merge.specs.Logs.{IsMerge}
use Rattle.ct_presume.proofs.GoingOn.{begun_self, never_at, opens, opens_all}
use Rattle.ct_presume.proofs.presuming.presume.Goals as goal

pub returns-in-Accepted-clause-first : goal.returns-in-Accepted-clause-first
returns-in-Accepted-clause-first c =
    let merged : IsMerge c.in-Accepted.world.rehearsal c.args.logs.items = search rules in
    opens c.in-Accepted.world.rehearsal c.args.logs.items c.args.logs.items (begun_self c.args.logs.items) merged

pub returns-in-Incomplete-clause-first : goal.returns-in-Incomplete-clause-first
returns-in-Incomplete-clause-first c =
    opens_all c.incomplete.result c.args.logs.items c.incomplete.ensures.begun c.incomplete.ensures.merged

pub returns-in-Refused-clause-refused : goal.returns-in-Refused-clause-refused
returns-in-Refused-clause-refused c =
    never_at _ _ _ _ c.in-Refused.culprit c.deref.ensures.value c.in-Refused.is c.in_ok-world.ensures.refused
