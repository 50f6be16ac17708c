-- Members of a group.
use Rattle.std.proofs.Common.{◌≡◌, ℕ, ◌<◌, true, arith}
use Rattle.std.proofs.lemmas.Bool.Decides.{nat_tests}
use Rattle.std.proofs.Math.Nat.{mod-lt}
use Rattle.ct_names.specs.Group.{is_member, coordinator, IsMember}

-- a member of the group, by its test
pub member_is : (n p : ℕ) → is_member n p ≡ true → IsMember n p
member_is n p h = grind (arith, nat_tests)

-- the coordinator of a round is a member
pub coordinator_is : (n round : ℕ) → 0 < n → IsMember n (coordinator n round)
coordinator_is n round some = omega (arith, mod-lt round some)
