use Rattle.ct_embed.proofs.Common.{◌≡◌, arith}
use Rattle.ct_names.specs.Group.{members}
use Rattle.ct_embed.proofs.standing_code.bits_of.Goals as goal

pub returns : goal.returns
unfolding members
returns c = let end : c.loop-i.i ≡ 16 = omega (arith, c.loop-i-test.false) in (rw end at c.loop-i.invariant).0
