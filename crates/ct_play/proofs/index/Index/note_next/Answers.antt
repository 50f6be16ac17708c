use Rattle.std.proofs.Common.{rules, ◌≡◌, ◌∙◌, ◌+◌, ◌++◌, [], ◌∷◌, Some, ap, length, sym}
use Rattle.std.specs.Prelude.{option_map, unwrap_or}
use Rattle.indexmap.specs.IndexMap.{get}
use Rattle.ct_model.specs.Mapped.{without_value}
use Rattle.ct_model.specs.Rehearsal.{state_of}
use Rattle.ct_model.specs.State.{at_serial}
use Rattle.ct_play.specs.contracts.address.AddressPartialEq.TheImpl.{ghosts as equal}
use Rattle.ct_play.specs.declared.address.Address.{Address}
use Rattle.ct_play.proofs.Indexing.{index_more, the_address}
use Rattle.ct_play.proofs.index.Index.note_next.Goals as goal

pub returns : goal.returns
returns c =
    let sent = (state_of c.args.world.now.rehearsal).sent in
    let before = c.args.self.now.before.items in
    let count = c.len-count.result in
    let e = c.in-Some.letter in
    let a : Address = record { to = e.to; carried = c.carried_of.result } in
    let old = c.args.self.now.last in
    let is : count + 1 ≡ length before + 1 = search rules in
    let there : option_map without_value (at_serial sent (count + 1)) ≡ Some e = sym c.in-Some.ensures in
    let its : a ≡ the_address e = ap (λ x. record { to = e.to; carried = x }) c.carried_of.ensures in
    let joined : c.push.new.self.items ≡ before ++ unwrap_or (get equal.eq old a) 0 ∷ [] =
    (rw c.unwrap.ensures at c.push.ensures.items)
    ∙ (ap (λ l. l ++ c.unwrap_or-before.result ∷ []) c.in_ok-reserve.ensures.items
    ∙ ap (λ x. before ++ x ∷ []) (c.unwrap_or-before.ensures ∙ ap (λ o. unwrap_or o 0) c.in_ok-insert.ensures.old)) in
    index_more old c.insert.new.self sent before c.push.new.self.items (count + 1) e a c.requires is there its
    c.in_ok-insert.ensures.updates joined
