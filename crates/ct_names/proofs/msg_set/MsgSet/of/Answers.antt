use Rattle.std.proofs.Common.{◌≡◌, ◌∙◌, subst, sym}
use Rattle.std.specs.List.Sorted.{IsPermutation}
use Rattle.std.proofs.lemmas.List.Filters.{dedup_is}
use Rattle.ct_names.specs.contracts.message.MessagePartialEq.TheImpl.{ghosts as equal}
use Rattle.ct_names.specs.Value.{ordered, IsOrdered}
use Rattle.ct_names.proofs.Sets.{set-ordered}
use Rattle.ct_names.proofs.Sorting.{sorted_dedup-set}
use Rattle.ct_names.proofs.msg_set.MsgSet.of.Goals as goal

-- what is left after the sort and `dedup`
left_is : (c : goal.After-dedup) → c.dedup.new.self.items ≡ ordered c.args.list.now
left_is c =
    let sorted = c.sort_unstable.new.self.items in
    let moved : IsPermutation c.args.list.now sorted = subst (λ list. IsPermutation list sorted) c.in_ok-items.ensures.items
    c.sort_unstable.ensures.permutation in
    dedup_is equal.eq sorted c.dedup.new.self.items c.dedup.ensures.filtered
    ∙ sorted_dedup-set c.args.list.now sorted moved c.sort_unstable.ensures.sorted

pub invariant_of-result : goal.invariant_of-result
invariant_of-result c = subst IsOrdered (sym (left_is c)) (set-ordered c.args.list.now)

pub returns : goal.returns
returns c = left_is c
