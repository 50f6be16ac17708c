-- What is noted of envelopes.
use Rattle.std.proofs.Common.{◌≡◌, ℕ, zero, suc, ◌+◌, ◌<◌, ◌≤◌, Bool, true, false, List, [], ◌∷◌, ◌++◌, length, get_or, Option, Some}
use Rattle.std.proofs.Common.{refl, sym, ap, ◌∙◌, subst, arith, ◌⊎◌, inl, inr, cond, length-append}
use Rattle.std.specs.Prelude.{◌&&◌, option_map, unwrap_or, slice_get}
use Rattle.std.specs.HashMap.{HashMap, IsEmpty, Updates, get}
use Rattle.std.proofs.lemmas.Bool.Decides.{nat_tests}
use Rattle.std.proofs.lemmas.Bool.{cases_eq, cases_lt}
use Rattle.std.proofs.lemmas.Option.{slice_get_cases, slice_get_past}
use Rattle.std.proofs.lemmas.List.{get_or_append_left}
use Rattle.std.proofs.Math.Seq.{get_or-append_seam}
use Rattle.ct_model.specs.AtValue.{Envelope}
use Rattle.ct_model.specs.Actor.{actor}
use Rattle.ct_model.specs.Mapped.{without_value}
use Rattle.ct_model.specs.Next.{next}
use Rattle.ct_model.specs.Rehearsal.{Rehearsal, state_of}
use Rattle.ct_model.specs.Wire.{envelopes}
use Rattle.ct_model.specs.declared.step.Step.{Step}
use Rattle.ct_model.proofs.Record.Frame.{after-sent}
use Rattle.ct_model.proofs.Relay.Messages.{next-is}
use Rattle.ct_model.specs.State.{State, at_serial}
use Rattle.ct_model.specs.declared.envelope.Envelope.{Envelope as AnyEnvelope}
use Rattle.ct_model.specs.declared.wire.Wire.{Wire}
use Rattle.ct_model.proofs.Basics.Options.{some-none}
use Rattle.ct_model.proofs.Record.Senders.{get-front}
use Rattle.ct_grammar.specs.declared.carried.Carried.{Carried}
use Rattle.ct_play.specs.Indexing.{IsIndex, IsIndexOf, IsLastTo, is_at}
use Rattle.ct_play.specs.Picking.{carried_of, carries, is_carried, is_to}
use Rattle.ct_play.specs.contracts.address.AddressPartialEq.TheImpl.{ghosts as equal}
use Rattle.ct_play.specs.declared.address.Address.{Address}
use Rattle.ct_play.specs.declared.index.Index.{Index}

same_address : (a b : Address) → equal.eq a b ≡ true → a ≡ b
same_address a b e = grind (arith, nat_tests)

self_address : (a : Address) → equal.eq a a ≡ true
self_address a = grind (arith, nat_tests)

-- ---- one envelope, one address

pub carries_is : {V : Type 0} (w : Wire V) (c : Carried) → carries w c ≡ true → carried_of w ≡ c
carries_is w c e = grind (arith, nat_tests)

pub carries_its : {V : Type 0} (w : Wire V) → carries w (carried_of w) ≡ true
carries_its w = grind (arith, nat_tests)

abbrev pub the_address : AnyEnvelope (Unit {0}) → Address
the_address e = record { to = e.to; carried = carried_of e.wire }

module _ (sent : List Envelope) (k : ℕ) (e : AnyEnvelope (Unit {0})) (there : option_map without_value (at_serial sent k) ≡ Some e) where
  its_own : is_at sent (the_address e) k ≡ true
  its_own = rw there (grind (arith, nat_tests, carries_its e.wire))

  no_other : (a : Address) → is_at sent a k ≡ true → the_address e ≡ a
  no_other a at =
      let h : (is_to a.to (Some e) && is_carried a.carried (Some e)) ≡ true = rw there at at in
      grind (arith, nat_tests, carries_is e.wire a.carried)

  none_other : (a : Address) → equal.eq (the_address e) a ≡ false → is_at sent a k ≡ false
  none_other a other = by_test (is_at sent a k) refl
    where
      by_test : (b : Bool) → is_at sent a k ≡ b → b ≡ false
      by_test true at =
          absurd (cc (sym other ∙ ap (λ z. equal.eq (the_address e) z) (sym (no_other a at)) ∙ self_address (the_address e)))
      by_test false at = refl

-- ---- the index

-- nothing is noted
pub index_first : {S : Type 0} (m : HashMap Address ℕ S) (sent : List Envelope) → IsEmpty m → IsIndex sent (get equal.eq m) []
index_first m sent none = record {
  few = omega arith;
  last = λ a. record {
    low = rw none (omega arith);
    none = λ k above low. absurd (omega arith);
  };
  before = λ a i low at. absurd (omega arith);
}

-- the next one is
pub index_more : {S : Type 0} (old new : HashMap Address ℕ S) (sent : List Envelope) (before after : List ℕ) (k : ℕ)
    (e : AnyEnvelope (Unit {0})) (a : Address) → IsIndex sent (get equal.eq old) before → k ≡ length before + 1 →
    option_map without_value (at_serial sent k) ≡ Some e → a ≡ the_address e → Updates equal.eq old new a (Some k) →
    after ≡ before ++ unwrap_or (get equal.eq old a) 0 ∷ [] → IsIndex sent (get equal.eq new) after
index_more old new sent before after k e a index is there its up joined = record {
  few = few;
  last = λ b. last b (equal.eq a b) refl;
  before = λ b i low at. by_place b i low at (cases_lt i (length before));
}
  where
    more : length after ≡ length before + 1
    more = ap length joined ∙ length-append before (unwrap_or (get equal.eq old a) 0 ∷ [])

    low_serial : (j : ℕ) → option_map without_value (at_serial sent j) ≡ Some e → j ≤ length sent
    low_serial zero s = omega arith
    low_serial (suc j) s = elim (cases_lt j (length sent)) [
      | inl low ↦ omega arith
      | inr far ↦ absurd (some-none e (sym (ap (option_map without_value) (slice_get_past sent j far)) ∙ s))
    ]

    few : length after ≤ length sent
    few = omega (arith, more, is, low_serial k there)

    off : (b : Address) → equal.eq a b ≡ false → is_at sent b k ≡ false
    off b other = none_other sent k e there b (sym (ap (λ z. equal.eq z b) its) ∙ other)

    last : (b : Address) (t : Bool) → equal.eq a b ≡ t → IsLastTo (is_at sent b) (length after) (unwrap_or (get equal.eq new b) 0)
    last b true same =
        let at : unwrap_or (get equal.eq new b) 0 ≡ k =
        ap (λ o. unwrap_or o 0) (up.0 b ∙ ap (λ t. cond t (Some k) (get equal.eq old b)) same) in
        rw at (record { low = omega (arith, more, is); none = λ j above low. absurd (omega (arith, more, is)) })
    last b false other =
        let at : unwrap_or (get equal.eq new b) 0 ≡ unwrap_or (get equal.eq old b) 0 =
        ap (λ o. unwrap_or o 0) (up.0 b ∙ ap (λ t. cond t (Some k) (get equal.eq old b)) other) in
        let was = index.last b in
        rw at (record {
          low = omega (arith, more, was.low);
          none = λ j above low. elim (cases_eq j k) [
            | inl e ↦ ap (is_at sent b) e ∙ off b other
            | inr less ↦ was.none j above (omega (arith, more, is, less))
          ];
        })

    by_place : (b : Address) (i : ℕ) → i < length after → is_at sent b (suc i) ≡ true → (i < length before) ⊎ (length before ≤ i) →
        IsLastTo (is_at sent b) i (get_or after i 0)
    by_place b i low at (inl old_place) =
        let same : get_or after i 0 ≡ get_or before i 0 =
        ap (λ l. get_or l i 0) joined ∙ get_or_append_left before (unwrap_or (get equal.eq old a) 0 ∷ []) 0 i old_place in
        rw same (index.before b i old_place at)
    by_place b i low at (inr new) =
        let here : i ≡ length before = omega (arith, more) in
        let next : suc i ≡ k = omega (arith, is) in
        let same : a ≡ b = its ∙ no_other sent k e there b (sym (ap (is_at sent b) next) ∙ at) in
        let was : get_or after i 0 ≡ unwrap_or (get equal.eq old b) 0 =
        ap (λ l. get_or l i 0) joined ∙ (ap (λ j. get_or (before ++ unwrap_or (get equal.eq old a) 0 ∷ []) j 0) here
        ∙ (get_or-append_seam before (unwrap_or (get equal.eq old a) 0) [] 0 ∙ ap (λ z. unwrap_or (get equal.eq old z) 0) same)) in
        rw was (subst (λ n. IsLastTo (is_at sent b) n (unwrap_or (get equal.eq old b) 0)) (sym here) (index.last b))

-- a test that is the same of each number up to n
last_same : (was now : ℕ → Bool) (n r : ℕ) → ((k : ℕ) → k ≤ n → now k ≡ was k) → IsLastTo was n r → IsLastTo now n r
last_same was now n r same h = record { low = h.low; none = λ k above low. same k low ∙ h.none k above low }

-- more is sent
pub index_kept : (old new more : List Envelope) (last : Address → Option ℕ) (before : List ℕ) → new ≡ old ++ more →
    IsIndex old last before → IsIndex new last before
index_kept old new more last before is index = record {
  few = omega (arith, index.few, ap length is, length-append old more);
  last = λ a.
      last_same (is_at old a) (is_at new a) (length before) (unwrap_or (last a) 0) (same a (length before) index.few) (index.last a);
  before = λ a i low at.
      let here : suc i ≤ length old = omega (arith, index.few) in
      let was : is_at old a (suc i) ≡ true = sym (same a (suc i) here (suc i) (omega arith)) ∙ at in
      let few : i ≤ length old = omega arith in
      last_same (is_at old a) (is_at new a) i (get_or before i 0) (same a i few) (index.before a i low was);
}
  where
    there : (k : ℕ) → k ≤ length old → at_serial new k ≡ at_serial old k
    there zero low = refl
    there (suc i) low = elim (slice_get_cases old i).1 [
      | inl x ↦ ap (λ l. slice_get l i) is ∙ (get-front old more i x.0 x.2 ∙ sym x.2)
      | inr x ↦ absurd (omega (arith, x.0))
    ]

    same : (a : Address) (n : ℕ) → n ≤ length old → (k : ℕ) → k ≤ n → is_at new a k ≡ is_at old a k
    same a n low k under =
        ap (λ o. is_to a.to (option_map without_value o) && is_carried a.carried (option_map without_value o)) (there k (omega arith))

-- behind a step
pub index_next : (w v : Rehearsal) (step : Step) (index : Index) → next w.setting (state_of w) step ≡ Some (state_of v) →
    IsIndexOf w index → IsIndexOf v index
index_next w v step index e is =
    let h = next-is w.setting (state_of w) step (state_of v) e in
    index_kept (state_of w).sent (state_of v).sent (envelopes w.setting.members (h.outcome).mail) (get equal.eq index.last)
    index.before.items (ap (λ (g : State). g.sent) (sym h.gives) ∙ after-sent w.setting (state_of w) (actor step) h.outcome) is
