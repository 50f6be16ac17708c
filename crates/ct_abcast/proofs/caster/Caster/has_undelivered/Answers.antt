use Rattle.std.proofs.Common.{arith}
use Rattle.std.proofs.lemmas.Bool.Decides.{nat_tests}
use Rattle.ct_abcast.specs.Batches.{joined}
use Rattle.ct_abcast.proofs.Fresh.{some-ordered}
use Rattle.ct_abcast.proofs.Pending.{pending-set}
use Rattle.ct_abcast.proofs.caster.Caster.has_undelivered.Goals as goal

pub returns : goal.returns
returns c =
    let pending = c.self.inside.pending.keys in
    let set = pending-set pending c.self.inside.received.items (joined c.self.inside.delivered.batches) c.self.invariant.0 in
    grind (arith, nat_tests, some-ordered pending, set)
