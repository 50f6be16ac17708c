-- What is pending: what was received and not delivered.
use Rattle.std.proofs.Common.{◌≡◌, Bool, true, false, cond, not, ◌&&◌, ◌||◌, List, [], ◌∷◌, ◌++◌, sym, ◌∙◌, arith, refl}
use Rattle.std.proofs.Common.{ℕ, ◌<◌, ◌+◌, length, get_or, take}
use Rattle.std.specs.List.{list_any}
use Rattle.std.proofs.lemmas.List.{append-nil, take_more}
use Rattle.std.proofs.lemmas.List.Folds.{list_any-append}
use Rattle.std.proofs.lemmas.Grind.{flat_map-append}
use Rattle.ct_names.specs.Message.{Message}
use Rattle.ct_names.specs.Order.{is_message}
use Rattle.ct_names.specs.Value.{has, minus, ordered}
use Rattle.ct_names.proofs.Receipts.{has-push}
use Rattle.ct_names.proofs.Sets.{same_ordered, has-ordered}
use Rattle.ct_names.proofs.Values.{same_message}
use Rattle.ct_abcast.specs.Batches.{joined, batch_after}
use Rattle.ct_abcast.specs.Pending.{IsPending}
use Rattle.ct_abcast.proofs.Fresh.{any-has}

has-minus : (list other : List Message) (m : Message) → has (minus list other) m ≡ (has list m && not (has other m))
has-minus [] other m = refl
has-minus (x ∷ list) other m = grind (arith, same_message x m, has-minus list other m)

-- the set of what is pending
pub pending-set : (pending received delivered : List Message) → IsPending pending received delivered →
    ordered pending ≡ ordered (minus received delivered)
pending-set pending received delivered h =
    same_ordered pending (minus received delivered) (λ m. h m ∙ sym (has-minus received delivered m))

-- what a list has after a message was put in or taken out, by a test that tells messages
module _ (test : Message → Message → Bool) (same : (m other : Message) → test m other ≡ is_message m other) (old new : List Message)
    (message : Message) (b : Bool) where
  pub updated : ((q : Message) → list_any (test q) new ≡ cond (test message q) b (list_any (test q) old)) → (m : Message) →
      has new m ≡ cond (is_message message m) b (has old m)
  updated h m = grind (arith, h m, same message m, any-has (test m) new m (same m), any-has (test m) old m (same m))

module _ (pending received new : List Message) (message : Message) (delivered : List Message) (h : IsPending pending received delivered)
    (is : new ≡ received ++ message ∷ []) where
  pushed : (m : Message) → has new m ≡ (has received m || is_message message m)
  pushed m = rw is (has-push received message m)

  -- a message that was not delivered is received
  pub pending-more : (keys : List Message) → false ≡ has delivered message →
      ((m : Message) → has keys m ≡ cond (is_message message m) true (has pending m)) → IsPending keys new delivered
  pending-more keys away updated m = grind (arith, updated m, h m, pushed m, same_message message m)

  -- a message that was delivered is received
  pub pending-same : true ≡ has delivered message → IsPending pending new delivered
  pending-same there m = grind (arith, h m, pushed m, same_message message m)

-- one of the messages is taken out, after those before it
pub taken-more : (pending before now messages : List Message) (i : ℕ) (message : Message) → i < length messages →
    message ≡ get_or messages i message → ((m : Message) → has before m ≡ (has pending m && not (has (take i messages) m))) →
    ((m : Message) → has now m ≡ cond (is_message message m) false (has before m)) → (m : Message) →
    has now m ≡ (has pending m && not (has (take (i + 1) messages) m))
taken-more pending before now messages i message low is h updated m =
    grind (arith, take_more messages i message low, has-push (take i messages) message m, h m, updated m)

-- what stays pending after one more batch
pub pending-left : (pending now received : List Message) (old new : List (List Message)) (v : List Message) →
    IsPending pending received (joined old) → new ≡ old ++ batch_after old v ∷ [] →
    ((m : Message) → has now m ≡ (has pending m && not (has v m))) → IsPending now received (joined new)
pending-left pending now received old new v h is left m =
    let more = batch_after old v in
    grind (
      arith,
      left m,
      h m,
      flat_map-append (λ b. b) old (more ∷ []),
      append-nil more,
      list_any-append (λ other. is_message other m) (joined old) more,
      has-ordered (minus v (joined old)) m,
      has-minus v (joined old) m,
    )
