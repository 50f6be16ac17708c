use Rattle.std.proofs.Common.{◌∙◌, ◌<◌, length, ap, arith, rules}
use Rattle.std.proofs.lemmas.Grind.{common_steps}
use Rattle.std.proofs.lemmas.List.Sorted.{IsNonDecreasingBy-from_sort}
use Rattle.ct_find.specs.Spreads.{value_at}
use Rattle.ct_find.proofs.Orders.{spread_is}
use Rattle.ct_find.proofs.spread.spread_of.Goals as goal

pub returns : goal.returns
returns c =
    let ordered = c.sort_unstable.new.self.items in
    let some : 0 < length c.args.values.items = first_of (search rules, grind (arith, common_steps)) in
    let five = spread_is c.value_at.result c.value_at-2.result c.value_at-3.result c.value_at-4.result c.value_at-5.result ordered
    (c.value_at.ensures ∙ ap (λ xs. value_at xs 0) c.deref.ensures.value)
    (c.value_at-2.ensures ∙ ap (λ xs. value_at xs 1) c.deref-2.ensures.value)
    (c.value_at-3.ensures ∙ ap (λ xs. value_at xs 2) c.deref-3.ensures.value)
    (c.value_at-4.ensures ∙ ap (λ xs. value_at xs 3) c.deref-4.ensures.value)
    (c.value_at-5.ensures ∙ ap (λ xs. value_at xs 4) c.deref-5.ensures.value) in (
      some,
      (
        ordered,
        record {
          same = c.sort_unstable.ensures.permutation;
          rises = IsNonDecreasingBy-from_sort (λ x. x) ordered c.sort_unstable.ensures.sorted;
        },
        five,
      ),
    )
