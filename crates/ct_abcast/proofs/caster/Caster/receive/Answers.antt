use Rattle.std.proofs.Common.{◌≡◌, ◌++◌, ◌∷◌, [], true, rules}
use Rattle.ct_names.proofs.Orders.{same_eq}
use Rattle.ct_abcast.specs.Batches.{joined}
use Rattle.ct_abcast.proofs.Feeding.{fed-kept}
use Rattle.ct_abcast.proofs.Pending.{pending-more, pending-same, updated}
use Rattle.ct_abcast.proofs.caster.Caster.receive.Goals as goal

pub invariant_of-self : goal.invariant_of-self
invariant_of-self c =
    let pending = c.self.inside.pending.keys in
    let received = c.self.inside.received.items in
    let delivered = joined c.self.inside.delivered.batches in
    let message = c.args.message in
    let keys = c.insert.new.self.keys in
    let pushed : c.push.new.self.items ≡ received ++ message ∷ [] = search rules in (
      pending-more pending received c.push.new.self.items message delivered c.self.invariant.0 pushed keys (search rules)
          (updated _ same_eq pending keys message true (search rules)),
      fed-kept c.self.inside.ordered received c.push.new.self.items message delivered c.self.invariant.1 pushed,
    )

pub invariant_of-self-else-not-contains : goal.invariant_of-self-else-not-contains
invariant_of-self-else-not-contains c =
    let received = c.self.inside.received.items in
    let delivered = joined c.self.inside.delivered.batches in
    let pushed : c.push.new.self.items ≡ received ++ c.args.message ∷ [] = search rules in (
      pending-same c.self.inside.pending.keys received c.push.new.self.items c.args.message delivered c.self.invariant.0 pushed
          (search rules),
      fed-kept c.self.inside.ordered received c.push.new.self.items c.args.message delivered c.self.invariant.1 pushed,
    )
