use Rattle.std.proofs.Common.{arith}
use Rattle.ct_names.proofs.MemberSets.{bits_of-members_of, members_of-zero}
use Rattle.ct_names.proofs.member_set.MemberSet.new.Goals as goal

pub invariant_of-result : goal.invariant_of-result
invariant_of-result c = bits_of-members_of 0 (omega arith)

pub returns : goal.returns
returns c = members_of-zero
