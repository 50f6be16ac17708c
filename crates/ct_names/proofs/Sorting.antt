-- A list that is sorted, and of which one of each message stays, is the set of its messages.
use Rattle.std.proofs.Common.{◌≡◌, List, [], ◌∷◌, Less, refl, sym, ap, ◌∙◌, subst, arith}
use Rattle.std.specs.List.{AllByRecursion, dedup, dedup_from}
use Rattle.std.specs.List.Sorted.{IsPermutation, IsSorted, IsStrictlySortedBy}
use Rattle.std.proofs.lemmas.List.Kept.{IsStrictlySortedBy-dedup}
use Rattle.std.proofs.lemmas.List.Sorted.{list_any-IsPermutation}
use Rattle.ct_names.specs.contracts.message.MessageOrd.TheImpl.{ghosts}
use Rattle.ct_names.specs.contracts.message.MessagePartialEq.TheImpl.{ghosts as equal}
use Rattle.ct_names.specs.Message.{Message}
use Rattle.ct_names.specs.Order.{is_message}
use Rattle.ct_names.specs.Value.{has, ordered}
use Rattle.ct_names.proofs.Orders.{order, order_total, message-order, less-before, same_cmp, same_eq}
use Rattle.ct_names.proofs.Sets.{IsBeforeAll, IsRising, set-rising, set-ordered, same_sets, same_ordered, has-ordered}
use Rattle.ct_names.proofs.Values.{same_message}

before_all-less : (m : Message) (list : List Message) → AllByRecursion (λ other. order m other ≡ Less) list → IsBeforeAll m list
before_all-less m [] h = tt
before_all-less m (x ∷ list) h = (less-before m x h.0, before_all-less m list h.1)

pub rising-strict : (list : List Message) → IsStrictlySortedBy order list → IsRising list
unfolding IsStrictlySortedBy
rising-strict [] h = tt
rising-strict (m ∷ list) h = (before_all-less m list h.0, rising-strict list h.1)

has-dedup_from : (k : Message) (list : List Message) (m : Message) → has (dedup_from is_message k list) m ≡ has (k ∷ list) m
has-dedup_from k [] m = refl
has-dedup_from k (x ∷ list) m = grind (arith, same_message x k, has-dedup_from k list m, has-dedup_from x list m)

has-dedup : (list : List Message) (m : Message) → has (dedup is_message list) m ≡ has list m
has-dedup [] m = refl
has-dedup (x ∷ list) m = has-dedup_from x list m

set-dedup : (list : List Message) → IsSorted order list → dedup is_message list ≡ ordered list
set-dedup list h =
    same_sets (dedup is_message list) (ordered list)
    (set-rising (dedup is_message list) (rising-strict (dedup is_message list) (IsStrictlySortedBy-dedup order_total message-order list h)))
    (set-ordered list)
    (λ m. has-dedup list m ∙ sym (has-ordered list m))

-- what is left of a list after a sort and `dedup` is the set of the list
pub sorted_dedup-set : (list moved : List Message) → IsPermutation list moved → IsSorted ghosts.cmp moved →
    dedup equal.eq moved ≡ ordered list
sorted_dedup-set list moved same h =
    let cmp_is : ghosts.cmp ≡ order = λ i. λ m other. same_cmp m other i in
    let eq_is : equal.eq ≡ is_message = λ i. λ m other. same_eq m other i in
    ap (λ test. dedup test moved) eq_is
    ∙ (set-dedup moved (subst (λ cmp. IsSorted cmp moved) cmp_is h)
    ∙ same_ordered moved list (λ m. sym (list_any-IsPermutation (λ other. is_message other m) list moved same)))
