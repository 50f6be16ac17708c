use Rattle.std.proofs.Common.{◌+◌, true, ◌∙◌, ap}
use Rattle.ct_names.specs.Value.{has}
use Rattle.ct_abcast.specs.Batches.{joined}
use Rattle.ct_abcast.specs.Ordered.{Fed}
use Rattle.ct_abcast.proofs.Feeding.{at-is, fed-more, fed-same}
use Rattle.ct_abcast.proofs.Pending.{updated}
use Rattle.ct_abcast.proofs.ordered.Ordered.feed.Goals as goal
use Rattle.ct_abcast.proofs.ordered.Ordered.feed.Goals.{then-not-contains+in_ok-insert, else-not-contains}

pub loop-self-preserved : goal.loop-self-preserved
loop-self-preserved c =
    let received = c.args.received.now in
    let delivered = joined c.args.delivered.now.batches in
    let message = c.index-received-self.result in
    let before : Fed = record { messages = c.loop-self.self-inside.messages.keys; fed = c.loop-self.self-inside.fed } in
    let now : Fed = record { messages = c.if-not-contains.self-inside.messages.keys; fed = c.if-not-contains.self-inside.fed + 1 } in
    elim c.if-not-contains.branch [
      | then-not-contains+in_ok-insert w ↦
          fed-more before now received delivered message c.loop-self.invariant c.loop-self-test.true c.index-received-self.is
          (ap (λ inside. inside.fed + 1) w.self-inside-is) w.if-not-contains.ensures
          (λ m. ap (λ inside. has inside.messages.keys m) w.self-inside-is
          ∙ updated _ at-is before.messages w.insert.new.self.keys message true w.in_ok-insert.ensures.updates.0 m)
      | else-not-contains w ↦
          fed-same before now received delivered message c.loop-self.invariant c.loop-self-test.true c.index-received-self.is
          (ap (λ inside. inside.fed + 1) w.self-inside-is) w.if-not-contains.ensures
          (ap (λ inside. inside.messages.keys) w.self-inside-is)
    ]
