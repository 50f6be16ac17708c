use Rattle.std.proofs.Common.{◌≡◌, ◌-◌, ◌^◌, ◌<◌, map}
use Rattle.ct_names.specs.Group.{counting}
use Rattle.ct_names.specs.MemberSet.{has_member, number_of}
use Rattle.ct_embed.proofs.standing_code.bits_of.Given as goal

-- the bits of the last members
abbrev pub invariant-loop-i : goal.invariant-loop-i
invariant-loop-i l = (l.bits ≡ number_of (map (has_member l.set) (counting (17 - l.i) l.i))) × (l.bits < 2 ^ l.i)
