use Rattle.std.proofs.Common.{◌∙◌, ap}
use Rattle.ct_names.specs.MemberSet.{with_member}
use Rattle.ct_names.proofs.MemberSets.{bits_of-members_of, members_of-insert, insert-low, bits_low}
use Rattle.ct_names.proofs.member_set.MemberSet.insert.Goals as goal

pub invariant_of-self : goal.invariant_of-self
invariant_of-self c =
    bits_of-members_of _ (insert-low c.self.inside.bits c.args.member (bits_low c.self.inside.bits c.self.invariant))

pub returns : goal.returns
returns c = members_of-insert c.self.inside.bits c.args.member c.requires ∙ ap (λ set. with_member set c.args.member) c.self.view_is
