use Rattle.std.proofs.Common.{◌≡◌, ◌++◌, ◌∷◌, [], true, false, OnOk, ◌∙◌, rules}
use Rattle.std.specs.List.{list_any}
use Rattle.indexmap.specs.IndexSet.{insert_key}
use Rattle.ct_relay.specs.Marks.{covers_id}
use Rattle.ct_relay.specs.Taken.{is_id}
use Rattle.ct_relay.specs.contracts.relay_id.RelayIdPartialEq.TheImpl.{ghosts as equal}
use Rattle.ct_relay.proofs.Kept.{marked-kept, other-kept}
use Rattle.ct_relay.proofs.Receipts.{insert_key-with_id}
use Rattle.ct_relay.proofs.relay.Relay.take.Goals as goal
use Rattle.ct_relay.proofs.relay.Relay.take.Goals.{then-deliver+then-not-add, then-deliver+else-not-add, else-deliver}

pub invariant_of-self : goal.invariant_of-self
invariant_of-self c =
    let order = c.self.inside.order.items in
    let known = c.self.inside.known in
    let others = c.self.inside.others.keys in
    let id = c.args.id in
    elim c.if-deliver.branch [
      | then-deliver+then-not-add w ↦
          let first : list_any (is_id id) order ≡ false = search rules in
          let items : w.push.new.self.items ≡ order ++ id ∷ [] = search rules in
          let uncovered : covers_id known id ≡ false = search rules in
          let inserted : OnOk w.insert.result (w.insert.new.self.keys ≡ insert_key equal.eq others id) = w.insert.ensures.keys in
          let keys = rw w.unwrap-then-not-add.ensures at inserted ∙ insert_key-with_id others id in
          rw (w.self-inside-is, items, w.add.ensures.marks, keys) (other-kept order known others c.self.invariant id first uncovered)
      | then-deliver+else-not-add w ↦
          let first : list_any (is_id id) order ≡ false = search rules in
          let items : w.push.new.self.items ≡ order ++ id ∷ [] = search rules in
          let covered : covers_id known id ≡ true = search rules in
          rw (w.self-inside-is, items, w.add.ensures.marks) (marked-kept order known others c.self.invariant id first covered)
      | else-deliver w ↦ rw w.self-inside-is c.self.invariant
    ]
