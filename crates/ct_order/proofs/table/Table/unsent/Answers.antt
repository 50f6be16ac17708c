use Rattle.std.proofs.Common.{◌≡◌, ◌∙◌, ◌&&◌, ℕ, true, ap, is_some, refl, rules, string_bytes}
use Rattle.std.specs.Cmp.{nat_eq_equiv}
use Rattle.std.specs.HashMap.{get_by_text}
use Rattle.std.specs.List.{list_all}
use Rattle.std.specs.Map.Iter.{deref_pair}
use Rattle.std.proofs.lemmas.Map.Iter.{hash_map_turn, rest_more}
use Rattle.ct_order.specs.declared.told.Told.{Told}
use Rattle.ct_order.proofs.table.Table.unsent.Goals as goal

pub returns-then-is_none : goal.returns-then-is_none
returns-then-is_none c =
    let k = hash_map_turn deref_pair c.loop-at.yielded c.into_iter-at-iterator.result c.loop-at.at-iterator c.next.new.self c.next.result
    (c.in-Some.at, c.in-Some.told) c.loop-at.yielded_by c.in-Some.is c.next.ensures.steps nat_eq_equiv c.args.self.now.order
    (search rules) (search rules) in
    (c.in-Some.told.now, k.1, refl, search rules)

pub loop-at-preserved : goal.loop-at-preserved
loop-at-preserved c = λ all.
    let is_sent = λ (e : ℕ × Told). is_some (get_by_text c.args.self.now.sent (string_bytes e.1.word)) in
    let there : is_some (get_by_text c.args.self.now.sent (string_bytes c.in-Some.told.now.word)) ≡ true = search rules in
    c.loop-at.invariant
    (ap (list_all is_sent) (rest_more deref_pair c.loop-at.at-iterator c.next.new.self c.next.result (c.in-Some.at, c.in-Some.told)
    c.in-Some.is c.next.ensures.steps)
    ∙ (ap (λ b. b && list_all is_sent c.next.new.self) there ∙ all))
