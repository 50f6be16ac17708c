use Rattle.std.proofs.Common.{arith}
use Rattle.ct_names.proofs.MemberSets.{has_member-bit, has_member-none, rising}
use Rattle.ct_names.proofs.member_set.MemberSet.contains.Goals as goal

pub returns-in-1-to-16-clause-value : goal.returns-in-1-to-16-clause-value
returns-in-1-to-16-clause-value c =
    has_member-bit c.self.inside.bits c.args.member c.args.self.now c.self.view_is (omega arith, omega arith)

pub returns-in-1-to-16-clause-members : goal.returns-in-1-to-16-clause-members
returns-in-1-to-16-clause-members c = rising c.self.inside.bits c.args.self.now c.self.view_is

pub returns-in_default-clause-value : goal.returns-in_default-clause-value
returns-in_default-clause-value c =
    has_member-none c.self.inside.bits c.args.member c.args.self.now c.self.view_is (λ h. absurd (omega (arith, h.0, h.1)))

pub returns-in_default-clause-members : goal.returns-in_default-clause-members
returns-in_default-clause-members c = rising c.self.inside.bits c.args.self.now c.self.view_is

pub returns-in_default-2-clause-value : goal.returns-in_default-2-clause-value
returns-in_default-2-clause-value c =
    has_member-none c.self.inside.bits c.args.member c.args.self.now c.self.view_is (λ h. absurd (omega (arith, h.0, h.1)))

pub returns-in_default-2-clause-members : goal.returns-in_default-2-clause-members
returns-in_default-2-clause-members c = rising c.self.inside.bits c.args.self.now c.self.view_is
