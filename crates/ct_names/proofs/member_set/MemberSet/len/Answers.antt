use Rattle.std.proofs.Common.{◌∙◌, ap, length}
use Rattle.ct_names.proofs.MemberSets.{length-members_of, rising}
use Rattle.ct_names.proofs.member_set.MemberSet.len.Goals as goal

pub returns-clause-value : goal.returns-clause-value
returns-clause-value c = length-members_of c.self.inside.bits c.self.invariant ∙ ap length c.self.view_is

pub returns-clause-members : goal.returns-clause-members
returns-clause-members c = rising c.self.inside.bits c.args.self.now c.self.view_is
