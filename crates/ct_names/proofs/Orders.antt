-- The order of messages is total: it compares their keys.
use Rattle.std.proofs.Common.{◌≡◌, ℕ, true, false, List, [], ◌∷◌, length, Ordering, Less, Equal, Greater, refl, sym}
use Rattle.std.proofs.Common.{ap, ◌∙◌, inl, inr, ◌⊎◌, arith}
use Rattle.std.specs.Cmp.{IsTotalOrder}
use Rattle.std.specs.Cmp.Lexicographic.{slice_cmp}
use Rattle.std.specs.Ordering.{nat_cmp, is_lt, is_eq, ordering_reverse}
use Rattle.std.proofs.lemmas.Bool.Decides.{nat_tests}
use Rattle.std.proofs.lemmas.Cmp.{nat_list_cmp_total, on_total}
use Rattle.ct_names.specs.declared.command.Command.{Command}
use Rattle.ct_names.specs.contracts.message.MessageOrd.TheImpl.{ghosts}
use Rattle.ct_names.specs.contracts.message.MessagePartialEq.TheImpl.{ghosts as equal}
use Rattle.ct_names.specs.Message.{Message}
use Rattle.ct_names.specs.Order.{is_before, is_message, is_less, is_same, key, command_key}

-- how the two compare
abbrev pub order : Message → Message → Ordering
order m other = slice_cmp nat_cmp (key m) (key other)

pub order_total : IsTotalOrder order
order_total = on_total key nat_list_cmp_total

less-cmp : (xs ys : List ℕ) → length xs ≡ length ys → is_less xs ys ≡ is_lt (slice_cmp nat_cmp xs ys)
less-cmp [] [] e = refl
less-cmp (x ∷ xs) (y ∷ ys) e = grind (arith, nat_tests, less-cmp xs ys (omega arith))
less-cmp _ _ e = absurd (omega arith)

same-cmp : (xs ys : List ℕ) → is_same xs ys ≡ is_eq (slice_cmp nat_cmp xs ys)
same-cmp [] [] = refl
same-cmp (x ∷ xs) (y ∷ ys) = grind (arith, nat_tests, same-cmp xs ys)
same-cmp _ _ = refl

length-command_key : (c : Command) → length (command_key c) ≡ 3
length-command_key c = grind arith

length-key : (m : Message) → length (key m) ≡ 5
length-key m = let e = length-command_key m.command in omega arith

pub before-order : (m other : Message) → is_before m other ≡ is_lt (order m other)
unfolding is_before
before-order m other = less-cmp (key m) (key other) (length-key m ∙ sym (length-key other))

pub message-order : (m other : Message) → is_message m other ≡ is_eq (order m other)
unfolding is_message
message-order m other = same-cmp (key m) (key other)

pub less-before : (m other : Message) → order m other ≡ Less → is_before m other ≡ true
less-before m other h = before-order m other ∙ ap is_lt h

pub before-less : (m other : Message) → is_before m other ≡ true → order m other ≡ Less
before-less m other h = grind (arith, before-order m other)

pub equal-message : (m other : Message) → order m other ≡ Equal → is_message m other ≡ true
equal-message m other h = message-order m other ∙ ap is_eq h

pub before-trans : (a b c : Message) → is_before a b ≡ true → is_before b c ≡ true → is_before a c ≡ true
before-trans a b c h k = less-before a c (order_total.trans a b c (before-less a b h) (before-less b c k))

pub before-other : (a b : Message) → is_before a b ≡ true → is_message a b ≡ false
before-other a b h = message-order a b ∙ ap is_eq (before-less a b h)

pub before-not_after : (a b : Message) → is_before a b ≡ true → is_before b a ≡ false
before-not_after a b h = before-order b a ∙ ap is_lt (order_total.antisymm b a ∙ ap ordering_reverse (before-less a b h))

-- one of the two is before the other, or they are one message
pub one_way : (a b : Message) → (is_before a b ≡ true) ⊎ ((is_message a b ≡ true) ⊎ (is_before b a ≡ true))
one_way a b = at (order a b) refl
  where
    at : (o : Ordering) → order a b ≡ o → (is_before a b ≡ true) ⊎ ((is_message a b ≡ true) ⊎ (is_before b a ≡ true))
    at Less e = inl (less-before a b e)
    at Equal e = inr (inl (equal-message a b e))
    at Greater e = inr (inr (less-before b a (order_total.antisymm b a ∙ ap ordering_reverse e)))

module _ (origin number other_origin other_number : ℕ) where
  abbrev with_command : Command → Message
  with_command command = record { origin = origin; number = number; command = command }

  abbrev other_with : Command → Message
  other_with command = record { origin = other_origin; number = other_number; command = command }

  same_cmp-command : (c d : Command) → ghosts.cmp (with_command c) (other_with d) ≡ order (with_command c) (other_with d)
  same_cmp-command c d = grind arith

-- the derived `cmp` of messages is that order
pub same_cmp : (m other : Message) → ghosts.cmp m other ≡ order m other
same_cmp m other = same_cmp-command m.origin m.number other.origin other.number m.command other.command

-- the derived `==` of messages
pub same_eq : (m other : Message) → equal.eq m other ≡ is_message m other
unfolding is_message
same_eq m other = grind (arith, nat_tests)
