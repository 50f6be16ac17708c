use Rattle.std.proofs.Common.{◌≡◌, ◌∙◌, ◌++◌, ◌∷◌, [], length, sym, subst, arith, rules}
use Rattle.std.proofs.lemmas.List.{take_all}
use Rattle.indexmap.specs.IndexSet.{insert_key}
use Rattle.ct_names.specs.contracts.message.MessagePartialEq.TheImpl.{ghosts as equal}
use Rattle.ct_names.specs.Membership.{IsWithoutRepeats}
use Rattle.ct_names.specs.Value.{minus}
use Rattle.ct_names.proofs.Sets.{set-minus}
use Rattle.ct_names.proofs.Values.{IsWithoutRepeats-ordered}
use Rattle.ct_abcast.proofs.Fresh.{insert-more}
use Rattle.ct_abcast.proofs.Within.{within-insert}
use Rattle.ct_abcast.proofs.Parts.{delivered-ends, joined-parts, parts-from}
use Rattle.ct_abcast.proofs.delivered.Delivered.deliver.Goals as goal

pub loop-message-preserved : goal.loop-message-preserved
loop-message-preserved c =
    let items = c.items-message-items.result.now in
    let once : IsWithoutRepeats items = subst IsWithoutRepeats
    (c.items-message-items.ensures.ordered ∙ sym c.items-message-items.ensures.value) (IsWithoutRepeats-ordered c.args.set.now) in
    let inserted : c.insert.new.self.keys ≡ insert_key equal.eq c.loop-message.self-inside.messages.keys c.message-item.result =
    search rules in
    let more = insert-more c.self.inside.messages.keys items c.loop-message.message-index c.message-item.result once
    c.loop-message-test.true c.message-item.is in
    record {
      keys = grind (arith, c.loop-message.invariant.keys, more);
      ends = c.loop-message.invariant.ends;
      within = within-insert _ c.see.new.self c.loop-message.self-inside.messages.keys c.message-item.result
          c.loop-message.invariant.within c.see.ensures.here c.see.ensures.grown c.insert.new.self.keys inserted;
      room = omega (arith, c.insert.ensures.spare, c.loop-message.invariant.room);
    }

-- all that was delivered, after the loop
all_is : (c : goal.After-unwrap-2) → c.loop-message.self-inside.messages.keys ≡ c.self.inside.messages.keys
    ++ minus c.args.set.now c.self.inside.messages.keys
all_is c = grind (
  arith,
  c.loop-message.invariant.keys,
  take_all c.loop-message.message-index c.items-message-items.result.now c.loop-message-test.false,
)

ends_are : (c : goal.After-unwrap-2) → c.push.new.self.items ≡ c.self.inside.ends.items ++ length c.loop-message.self-inside.messages.keys
    ∷ []
ends_are c = search rules

pub invariant_of-self : goal.invariant_of-self
invariant_of-self c = record {
  ends_there = delivered-ends c.self.inside.ends.items c.push.new.self.items c.self.inside.messages.keys
      c.loop-message.self-inside.messages.keys (minus c.args.set.now c.self.inside.messages.keys) c.self.invariant.ends_there (all_is c)
      (ends_are c);
  within = c.loop-message.invariant.within;
}

pub returns-clause-batches : goal.returns-clause-batches
returns-clause-batches c =
    let ends = c.self.inside.ends.items in
    let keys = c.self.inside.messages.keys in
    grind (
      arith,
      all_is c,
      ends_are c,
      parts-from 0 ends keys (minus c.args.set.now keys) c.self.invariant.ends_there,
      set-minus c.args.set.now keys c.items-message-items.ensures.ordered,
      joined-parts ends keys c.self.invariant.ends_there,
    )
