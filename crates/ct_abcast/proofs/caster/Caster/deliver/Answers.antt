use Rattle.std.proofs.Common.{◌≡◌, not, ◌&&◌, arith}
use Rattle.ct_names.specs.Message.{Message}
use Rattle.ct_names.specs.Value.{has}
use Rattle.ct_abcast.proofs.Feeding.{fed-left}
use Rattle.ct_abcast.proofs.Pending.{pending-left}
use Rattle.ct_abcast.proofs.caster.Caster.deliver.Goals as goal

pub invariant_of-self : goal.invariant_of-self
invariant_of-self c =
    let received = c.self.inside.received.items in
    let old = c.self.inside.delivered.batches in
    let new = c.deliver.new.self.batches in
    let v = c.args.set.now in
    let pending = c.self.inside.pending.keys in
    let fed = c.self.inside.ordered in
    let left : (m : Message) → has c.take_out.new.pending.keys m ≡ (has pending m && not (has v m)) =
    λ m. grind (arith, c.take_out.ensures.left m) in
    let left_in_order : (m : Message) → has c.take_out-2.new.self.messages m ≡ (has fed.messages m && not (has v m)) =
    λ m. grind (arith, c.take_out-2.ensures.left m) in (
      pending-left pending c.take_out.new.pending.keys received old new v c.self.invariant.0 c.deliver.ensures.batches left,
      fed-left fed c.take_out-2.new.self received old new v c.self.invariant.1 c.deliver.ensures.batches left_in_order
          c.take_out-2.ensures.fed,
    )
