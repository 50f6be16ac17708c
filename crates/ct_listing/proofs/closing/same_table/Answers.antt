use Rattle.std.proofs.Common.{arith}
use Rattle.ct_listing.proofs.Reported.{small_more}
use Rattle.ct_listing.proofs.closing.same_table.Goals as goal

pub loop-register-preserved : goal.loop-register-preserved
loop-register-preserved c =
    small_more c.args.table.now c.loop-register.register c.unwrap_or.result c.get.result c.loop-register.invariant c.get.ensures.value
    c.unwrap_or.ensures (omega (arith, c.unwrap_or.type_inv))
