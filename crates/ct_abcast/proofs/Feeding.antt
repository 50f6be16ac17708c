-- What is pending, in order.
use Rattle.std.proofs.Common.{◌≡◌, ℕ, ◌+◌, ◌<◌, ◌≤◌, true, false, cond, not, ◌&&◌, List, [], ◌∷◌, ◌++◌, length, get_or, take}
use Rattle.std.proofs.Common.{map, sym, ap, ◌∙◌, subst, arith, length-append}
use Rattle.std.specs.BTreeMap.{is_at}
use Rattle.std.specs.List.Sorted.{IsStrictlySortedBy}
use Rattle.std.specs.Ordering.{is_eq}
use Rattle.std.proofs.lemmas.List.{take_all, take_more, take-append-le, map_push}
use Rattle.ct_names.specs.contracts.message.MessageOrd.TheImpl.{ghosts}
use Rattle.ct_names.specs.Message.{Message}
use Rattle.ct_names.specs.Order.{is_message}
use Rattle.ct_names.specs.Value.{has, minus, ordered, IsOrdered}
use Rattle.ct_names.proofs.Orders.{order, message-order, same_cmp}
use Rattle.ct_names.proofs.Receipts.{has-push}
use Rattle.ct_names.proofs.Sorting.{rising-strict}
use Rattle.ct_names.proofs.Values.{length-ordered}
use Rattle.ct_names.proofs.Sets.{set-rising, set-take, same_ordered, has-ordered}
use Rattle.ct_abcast.specs.Batches.{joined, batch_after}
use Rattle.ct_abcast.specs.Ordered.{Fed, IsFed}
use Rattle.ct_abcast.proofs.Pending.{pending-more, pending-same, pending-left, pending-set}

-- the keys of the tree are messages

pub at-is : (m other : Message) → is_at (ghosts.cmp m) other ≡ is_message m other
at-is m other = ap is_eq (same_cmp m other) ∙ sym (message-order m other)

-- the keys of the tree are a set
pub tree-set : (keys : List Message) → IsStrictlySortedBy ghosts.cmp keys → IsOrdered keys
tree-set keys h =
    let cmp_is : ghosts.cmp ≡ order = λ i. λ m other. same_cmp m other i in
    set-rising keys (rising-strict keys (subst (λ cmp. IsStrictlySortedBy cmp keys) cmp_is h))

-- the first keys, one after another, as a set
pub set-more : {A : Type 0} (message : A → Message) (set : List Message) (before : List A) (x : A) → set ≡ ordered (map message before) →
    ordered (set ++ message x ∷ []) ≡ ordered (map message (before ++ x ∷ []))
set-more message set before x is =
    let list = map message before in
    same_ordered (set ++ message x ∷ []) (map message (before ++ x ∷ [])) (λ m.
    grind (arith, has-push set (message x) m, has-ordered list m, map_push message before x, has-push list (message x) m))

pub set-first : (set some keys : List Message) (bound : ℕ) → IsOrdered keys → set ≡ ordered some → some ≡ take bound keys →
    set ≡ take bound (ordered keys)
set-first set some keys bound h set_is some_is = grind (arith, set-take bound keys h)

-- a bound that is not below the number of messages bounds nothing
pub take-few : (list : List Message) (bound : ℕ) → length list ≤ bound → take bound (ordered list) ≡ ordered list
take-few list bound few = take_all bound (ordered list) (omega (arith, length-ordered list))

-- what was fed is right when nothing was fed
pub fed-none : (f : Fed) (received delivered : List Message) → f.fed ≡ 0 → f.messages ≡ [] → IsFed f received delivered
fed-none f received delivered none empty = grind arith

-- one more of the received messages is fed
module _ (f next : Fed) (received delivered : List Message) (message : Message) (h : IsFed f received delivered)
    (low : f.fed < length received) (is : message ≡ get_or received f.fed message) (moved : next.fed ≡ f.fed + 1) where
  abbrev before : List Message
  before = take f.fed received

  taken : take next.fed received ≡ before ++ message ∷ []
  taken = grind (arith, take_more received f.fed message low)

  pub fed-more : false ≡ has delivered message →
      ((m : Message) → has next.messages m ≡ cond (is_message message m) true (has f.messages m)) → IsFed next received delivered
  fed-more away updated =
      let all = pending-more f.messages before (take next.fed received) message delivered h.pending taken next.messages away updated in
      grind (arith, h.within, all)

  pub fed-same : true ≡ has delivered message → next.messages ≡ f.messages → IsFed next received delivered
  fed-same there same =
      grind (arith, h.within, pending-same f.messages before (take next.fed received) message delivered h.pending taken there)

-- one more message is received, and isn't fed yet
pub fed-kept : (f : Fed) (received new : List Message) (message : Message) (delivered : List Message) → IsFed f received delivered →
    new ≡ received ++ message ∷ [] → IsFed f new delivered
fed-kept f received new message delivered h is =
    grind (arith, h.within, h.pending, length-append received (message ∷ []), take-append-le f.fed received (message ∷ []) h.within)

-- one more batch is delivered
pub fed-left : (f next : Fed) (received : List Message) (old new : List (List Message)) (v : List Message) → IsFed f received (joined old) →
    new ≡ old ++ batch_after old v ∷ [] → ((m : Message) → has next.messages m ≡ (has f.messages m && not (has v m))) → next.fed ≡ f.fed →
    IsFed next received (joined new)
fed-left f next received old new v h is left same =
    grind (arith, h.within, pending-left f.messages next.messages (take f.fed received) old new v h.pending is left)

-- the set of what is pending, once all is fed
pub fed-set : (f : Fed) (received delivered : List Message) → IsFed f received delivered → f.fed ≡ length received →
    ordered f.messages ≡ ordered (minus received delivered)
fed-set f received delivered h all =
    pending-set f.messages received delivered (rw (take_all f.fed received (omega arith)) at h.pending)
