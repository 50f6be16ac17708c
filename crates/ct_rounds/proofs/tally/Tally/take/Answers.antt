use Rattle.std.proofs.Common.{refl}
use Rattle.ct_rounds.proofs.Rising.{set-insert}
use Rattle.ct_rounds.proofs.tally.Tally.take.Goals as goal

pub invariant_of-self : goal.invariant_of-self
invariant_of-self c =
    let i = c.self.inside in
    let is = c.self.invariant in
    rw (c.insert.ensures, c.insert-in-Ack.ensures) (record {
      heard_is = is.heard_is;
      acked_is =
          set-insert i.acked c.in-Ack.from;
      replied_is = set-insert i.replied c.in-Ack.from;
      best_is = is.best_is;
    })

pub invariant_of-self-in-Nack : goal.invariant_of-self-in-Nack
invariant_of-self-in-Nack c =
    let i = c.self-in-Nack.inside in
    let is = c.self-in-Nack.invariant in
    rw c.insert-in-Nack.ensures (record {
      heard_is = is.heard_is;
      acked_is = is.acked_is;
      replied_is =
          set-insert i.replied c.in-Nack.from;
      best_is = is.best_is;
    })

pub returns-in-Ack : goal.returns-in-Ack
returns-in-Ack c = rw (c.in-Ack.is, ← c.self.view_is, c.insert.ensures, c.insert-in-Ack.ensures) refl

pub returns-in-Nack : goal.returns-in-Nack
returns-in-Nack c = rw (c.in-Nack.is, ← c.self-in-Nack.view_is, c.insert-in-Nack.ensures) refl
