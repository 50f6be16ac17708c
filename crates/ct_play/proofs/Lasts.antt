-- The last envelopes that were sent to a member, one serial less at a time.
use Rattle.std.proofs.Common.{◌≡◌, ◌<◌, ◌≤◌, ◌-◌, ℕ, zero, suc, Bool, true, false, Option, Some, None, refl, sym, ap, arith, inl, inr}
use Rattle.std.specs.Bool.{then_some}
use Rattle.std.specs.Option.{option_or}
use Rattle.std.specs.Prelude.{◌&&◌, option_map}
use Rattle.std.proofs.lemmas.Bool.{cases_lt}
use Rattle.ct_model.specs.Mapped.{without_value}
use Rattle.ct_model.specs.Rehearsal.{Rehearsal, state_of}
use Rattle.ct_model.specs.State.{at_serial}
use Rattle.ct_model.specs.declared.envelope.Envelope.{Envelope}
use Rattle.ct_grammar.specs.declared.carried.Carried.{Carried}
use Rattle.ct_play.specs.Indexing.{IsLastTo, is_at}
use Rattle.ct_play.specs.Picking.{is_carried, is_from, is_gone, is_so, is_to, last_of, sender_of, was_sent}

abbrev after : Option ℕ → Option ℕ → (ℕ → Bool) → (ℕ → Bool) → ℕ → Option ℕ
after last here gone was k = option_or (last_of gone k) (option_or (option_or last here) (last_of was k))

less : (gone was : ℕ → Bool) (k : ℕ) (last : Option ℕ) (is : Bool) → gone (suc k) ≡ false → was (suc k) ≡ is →
    option_or (last_of gone (suc k)) (option_or last (last_of was (suc k))) ≡ after last (then_some is (suc k)) gone was k
less gone was k None true g w = rw (g, w) refl
less gone was k None false g w = rw (g, w) refl
less gone was k (Some j) true g w = rw g refl
less gone was k (Some j) false g w = rw g refl

-- one that was sent and is not gone is kept, unless a later one is
pub one_less : (gone was : ℕ → Bool) (n : ℕ) (last : Option ℕ) → 0 < n → gone n ≡ false →
    option_or (last_of gone n) (option_or last (last_of was n)) ≡ after last (then_some (was n) n) gone was (n - 1)
one_less gone was zero last some g = absurd (omega (arith, some))
one_less gone was (suc k) last some g =
    let e : suc k - 1 ≡ k = omega arith in rw e (less gone was k last (was (suc k)) g refl)

-- one that is gone is the last
pub at_gone : (gone : ℕ → Bool) (n : ℕ) (other : Option ℕ) → 0 < n → gone n ≡ true → option_or (last_of gone n) other ≡ Some n
at_gone gone zero other some g = absurd (omega (arith, some))
at_gone gone (suc k) other some g = rw g refl

-- ---- past serials that are not sent so

skipped : (test : ℕ → Bool) (n r : ℕ) → IsLastTo test n r → last_of test n ≡ last_of test r
skipped test zero r h = let e : r ≡ zero = omega (arith, h.low) in ap (last_of test) (sym e)
skipped test (suc n) r h = elim (cases_lt n r) [
  | inl at ↦ let e : suc n ≡ r = omega (arith, h.low) in ap (last_of test) e
  | inr over ↦
      let off : test (suc n) ≡ false = h.none (suc n) (omega (arith, over)) (omega arith) in
      let rest : IsLastTo test n r = record { low = over; none = λ k above low. h.none k above (omega arith) } in
      rw off (skipped test n r rest)
]

other_address : (to carried from : Bool) → (to && carried) ≡ false → (to && (carried && from)) ≡ false
other_address false carried from h = refl
other_address true carried from h = rw h refl

module _ (w : Rehearsal) (p : ℕ) (carried : Carried) (from : Option ℕ) (n r : ℕ)
    (h : IsLastTo (is_at (state_of w).sent (record { to = p; carried = carried })) n r) where
  not_sent : (k : ℕ) → r < k → k ≤ n → was_sent w p carried from k ≡ false
  unfolding was_sent is_so
  not_sent k above low =
      let e : Option (Envelope (Unit {0})) = option_map without_value (at_serial (state_of w).sent k) in
      other_address (is_to p e) (is_carried carried e) (is_from from (sender_of w k)) (h.none k above low)

  pub sent_past : last_of (was_sent w p carried from) n ≡ last_of (was_sent w p carried from) r
  sent_past = skipped (was_sent w p carried from) n r (record { low = h.low; none = not_sent })

  pub gone_past : last_of (is_gone w p carried from) n ≡ last_of (is_gone w p carried from) r
  unfolding is_gone
  gone_past = skipped (is_gone w p carried from) n r (record {
    low = h.low;
    none = λ k above low. rw (not_sent k above low) refl;
  })
