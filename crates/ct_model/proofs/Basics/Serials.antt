-- Lists of serials: membership, repeats, and those of the envelopes to a member.
use Rattle.std.proofs.Common.{◌≡◌, ℕ, suc, zero, ◌+◌, ◌-◌, ◌<◌, ◌≤◌, Bool, true, false, List, [], ◌∷◌, ◌++◌, length, map, refl, ap}
use Rattle.std.proofs.Common.{◌∙◌, ◌⊎◌, inl, inr, arith}
use Rattle.std.proofs.lemmas.Bool.{cases_lt}
use Rattle.std.specs.Prelude.{◌&&◌, ◌||◌, ◌==◌, filter}
use Rattle.std.proofs.lemmas.List.Folds.{list_any-append}
use Rattle.std.proofs.lemmas.List.{length-map}
use Rattle.std.proofs.lemmas.Bool.Decides.{nat_tests}
use Rattle.ct_names.specs.Group.{members, counting}
use Rattle.ct_names.specs.Membership.{IsIn, IsWithoutRepeats}
use Rattle.ct_names.proofs.Groups.{length-counting}
use Rattle.ct_model.specs.AtValue.{Envelope}
use Rattle.ct_model.specs.declared.wire.Wire.{Wire as AnyWire}
use Rattle.ct_model.specs.declared.envelope.Envelope.{Envelope as AnyEnvelope}
use Rattle.ct_model.specs.Wire.{envelopes}
use Rattle.ct_model.specs.declared.mail.Mail.{Mail as AnyMail}
use Rattle.ct_model.specs.declared.mail.Mail.TheVariants.{All}
use Rattle.ct_model.specs.Waiting.{has_serial, serials_to}
use Rattle.ct_model.specs.Lawful.{is_distinct}

pub has_serial-append : (k : ℕ) (xs ys : List ℕ) → has_serial k (xs ++ ys) ≡ (has_serial k xs || has_serial k ys)
has_serial-append k xs ys = list_any-append (λ q. q == k) xs ys

pub has_serial-filter : (f : ℕ → Bool) (k : ℕ) (ks : List ℕ) → has_serial k (filter f ks) ≡ (has_serial k ks && f k)
has_serial-filter f k [] = refl
has_serial-filter f k (i ∷ ks) = grind (arith, nat_tests, has_serial-filter f k ks)

pub is_distinct-filter : (f : ℕ → Bool) (ks : List ℕ) → is_distinct ks ≡ true → is_distinct (filter f ks) ≡ true
is_distinct-filter f [] h = refl
is_distinct-filter f (k ∷ ks) h = grind (arith, has_serial-filter f k ks, is_distinct-filter f ks)

pub is_distinct-append : (xs ys : List ℕ) → is_distinct xs ≡ true → is_distinct ys ≡ true →
    ((k : ℕ) → has_serial k xs ≡ true → has_serial k ys ≡ false) → is_distinct (xs ++ ys) ≡ true
is_distinct-append [] ys dx dy h = dy
is_distinct-append (x ∷ xs) ys dx dy h =
    grind (arith, nat_tests, has_serial-append, is_distinct-append xs ys (grind arith) dy (λ k m. h k (grind arith)))

-- a list of distinct serials has no repeats

in-has : (k : ℕ) (ks : List ℕ) → IsIn k ks → has_serial k ks ≡ true
in-has k [] h = absurd h
in-has k (i ∷ ks) (inl e) = grind (arith, nat_tests)
in-has k (i ∷ ks) (inr h) = grind (arith, in-has k ks h)

pub distinct-once : (ks : List ℕ) → is_distinct ks ≡ true → IsWithoutRepeats ks
distinct-once [] h = tt
distinct-once (k ∷ ks) h = (λ again. let m = in-has k ks again in absurd (grind arith), distinct-once ks (grind arith))

-- the serials of a list of envelopes, in two parts
pub serials_to-append : (p before : ℕ) (xs ys : List Envelope) →
    serials_to p before (xs ++ ys) ≡ serials_to p before xs ++ serials_to p (before + length xs) ys
serials_to-append p before [] ys = grind arith
serials_to-append p before (e ∷ xs) ys = grind (arith, serials_to-append p (before + 1) xs ys)

-- they follow what was sent before, one by one
pub serials_to-within : (p before k : ℕ) (es : List Envelope) → has_serial k (serials_to p before es) ≡ true →
    (before < k) × (k ≤ before + length es)
serials_to-within p before k [] h = absurd (cc)
serials_to-within p before k (e ∷ es) h = grind (arith, nat_tests, serials_to-within p (before + 1) k es)

pub serials_to-distinct : (p before : ℕ) (es : List Envelope) → is_distinct (serials_to p before es) ≡ true
serials_to-distinct p before [] = refl
serials_to-distinct p before (e ∷ es) = grind (arith, serials_to-within, serials_to-distinct p (before + 1) es)

-- the list is empty, or has one serial
abbrev pub HasOne : List ℕ → Type 0
HasOne ks = (ks ≡ []) ⊎ ((k : ℕ) × (ks ≡ k ∷ []))

-- one wire to all
module _ {V : Type 0} (w : AnyWire V) where
  abbrev letter : ℕ → AnyEnvelope V
  letter to = record { to = to; wire = w }

  none_below : (p before a n : ℕ) → p < a → serials_to p before (map letter (counting a n)) ≡ []
  none_below p before a zero h = refl
  none_below p before a (suc n) h = grind (arith, none_below p (before + 1) (a + 1) n (omega arith))

  none_above : (p before a n : ℕ) → a + n ≤ p → serials_to p before (map letter (counting a n)) ≡ []
  none_above p before a zero h = refl
  none_above p before a (suc n) h = grind (arith, none_above p (before + 1) (a + 1) n (omega arith))

  one_at : (p before a n i : ℕ) → p ≡ a + i → i < n → serials_to p before (map letter (counting a n)) ≡ (before + i + 1) ∷ []
  one_at p before a zero i e h = absurd (omega arith)
  one_at p before a (suc n) zero e h = grind (arith, none_below p (before + 1) (a + 1) n (omega arith))
  one_at p before a (suc n) (suc i) e h = grind (arith, one_at p (before + 1) (a + 1) n i (omega arith) (omega arith))

  -- a member gets one of the envelopes
  pub serials_to-all : (n p before : ℕ) → 1 ≤ p → p ≤ n → serials_to p before (envelopes n (All w)) ≡ (before + p) ∷ []
  unfolding members
  serials_to-all n p before l h = one_at p before 1 n (p - 1) (omega arith) (omega arith) ∙ ap (λ k. k ∷ []) (omega arith)

  -- and who is none gets none
  all_at_most : (n p before : ℕ) → HasOne (serials_to p before (envelopes n (All w)))
  unfolding members
  all_at_most n p before = grind (arith, cases_lt, none_below, none_above, serials_to-all)

  pub length-all : (n : ℕ) → length (envelopes n (All w)) ≡ n
  unfolding members
  length-all n = length-map (members n) letter ∙ length-counting 1 n

-- a step sends at most one envelope to a member
pub mail_at_most : {V : Type 0} (n p before : ℕ) (mail : AnyMail V) → HasOne (serials_to p before (envelopes n mail))
mail_at_most n p before mail = grind (arith, all_at_most)
