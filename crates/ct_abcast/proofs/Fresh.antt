-- The messages of a set that a list doesn't have join the list in turn.
use Rattle.std.proofs.Common.{◌≡◌, ℕ, zero, suc, ◌+◌, ◌<◌, Bool, false, List, [], ◌∷◌, ◌++◌, length, get_or, take}
use Rattle.std.proofs.Common.{nat_lt, refl, ap, inl, inr, arith, append_assoc}
use Rattle.std.specs.List.{list_any}
use Rattle.std.proofs.lemmas.Bool.{false_from_ne_true}
use Rattle.std.proofs.lemmas.Bool.Decides.{nat_tests}
use Rattle.std.proofs.lemmas.List.{append-nil}
use Rattle.std.proofs.lemmas.List.Folds.{list_any-append}
use Rattle.indexmap.specs.IndexSet.{insert_key}
use Rattle.ct_names.specs.contracts.message.MessagePartialEq.TheImpl.{ghosts as equal}
use Rattle.ct_names.specs.Membership.{IsIn, IsWithoutRepeats}
use Rattle.ct_names.specs.Message.{Message}
use Rattle.ct_names.specs.Order.{is_message}
use Rattle.ct_names.specs.Value.{has, minus, ordered}
use Rattle.ct_names.proofs.Orders.{same_eq}
use Rattle.ct_names.proofs.Places.{minus-more}
use Rattle.ct_names.proofs.Sets.{ordered-in, set-nil}
use Rattle.ct_names.proofs.Values.{same_message, is_message-refl, in-has, minus-from}

pub is_message-sym : (a b : Message) → is_message a b ≡ is_message b a
is_message-sym a b = grind (arith, same_message a b, same_message b a, is_message-refl a)

-- by a test that tells the message, something of the list is it where the list has the message
pub any-has : (test : Message → Bool) (list : List Message) (m : Message) → ((other : Message) → test other ≡ is_message m other) →
    list_any test list ≡ has list m
any-has test [] m same = refl
any-has test (x ∷ list) m same = grind (arith, same x, is_message-sym m x, any-has test list m same)

-- the set of keys has what the list has
pub keys-has : (list : List Message) (m : Message) → list_any (equal.eq m) list ≡ has list m
keys-has list m = any-has (equal.eq m) list m (same_eq m)

in-at : (items : List Message) (i : ℕ) (m : Message) → i < length items → m ≡ get_or items i m → IsIn m items
in-at [] i m low is = absurd (omega arith)
in-at (x ∷ items) zero m low is = inl is
in-at (x ∷ items) (suc i) m low is = inr (in-at items i m (omega arith) is)

-- what stands in a list without repeats does not stand before
fresh : (items : List Message) (i : ℕ) (m : Message) → IsWithoutRepeats items → i < length items → m ≡ get_or items i m →
    IsIn m (take i items) → ⊥
fresh [] i m once low is h = absurd (omega arith)
fresh (x ∷ items) zero m once low is h = h
fresh (x ∷ items) (suc i) m once low is (inl e) = once.0 (rw e at (in-at items i m (omega arith) is))
fresh (x ∷ items) (suc i) m once low is (inr h) = fresh items i m once.1 (omega arith) is h

-- what is not in the list
pub absent : (list : List Message) (m : Message) → (IsIn m list → ⊥) → has list m ≡ false
absent list m out = false_from_ne_true (has list m) (λ h. out (in-has list m h))

-- the next message of the set is inserted where the list doesn't have it
pub insert-more : (list items : List Message) (i : ℕ) (m : Message) → IsWithoutRepeats items → i < length items → m ≡ get_or items i m →
    insert_key equal.eq (list ++ minus (take i items) list) m ≡ list ++ minus (take (i + 1) items) list
insert-more list items i m once low is =
    let kept = minus (take i items) list in
    grind (
      arith,
      minus-more items list i m (has list m) low is refl,
      keys-has (list ++ kept) m,
      list_any-append (λ other. is_message other m) list kept,
      absent kept m (λ h. fresh items i m once low is (minus-from (take i items) list m h)),
      append-nil kept,
      append_assoc list kept (m ∷ []),
    )

-- the set of a list has a message where the list has
pub some-ordered : (list : List Message) → nat_lt 0 (length (ordered list)) ≡ nat_lt 0 (length list)
some-ordered [] = ap (λ zs. nat_lt 0 (length zs)) set-nil
some-ordered (m ∷ list) = at (ordered (m ∷ list)) (ordered-in (m ∷ list) m (inl refl))
  where
    at : (zs : List Message) → IsIn m zs → nat_lt 0 (length zs) ≡ nat_lt 0 (suc (length list))
    at [] h = absurd h
    at (z ∷ zs) h = grind (arith, nat_tests)
