-- What is told of a refused step is true.
use Rattle.std.proofs.Common.{◌≡◌, ◌+◌, ◌≤◌, inl, inr, ℕ, zero, suc, Bool, true, false, List, [], ◌∷◌, refl, ap, sym, ◌∙◌}
use Rattle.std.proofs.Common.{subst, append-nil, arith, get_or, length, position}
use Rattle.std.proofs.lemmas.Bool.Decides.{nat_tests}
use Rattle.std.proofs.lemmas.List.Quantifiers.{position-Some}
use Rattle.std.proofs.lemmas.Option.{slice_get-get_or}
use Rattle.std.proofs.Math.Nat.{eq-or-lt_of_le}
use Rattle.std.specs.Prelude.{if◌then◌else◌, Option, Some, None, option_and_then, option_map, slice_get, unwrap_or}
use Rattle.ct_names.specs.Group.{IsMember}
use Rattle.ct_names.specs.declared.refusal.Refusal.{Refusal}
use Rattle.ct_names.specs.declared.refusal.Refusal.TheVariants as refusal
use Rattle.ct_names.proofs.Lists.{contrary}
use Rattle.ct_model.specs.Actor.{actor}
use Rattle.ct_model.specs.AtValue.{Envelope}
use Rattle.ct_model.specs.Cause.{cause, limit}
use Rattle.ct_model.specs.Mapped.{without_value}
use Rattle.ct_model.specs.Rehearsal.{Rehearsal, line_of, state_of}
use Rattle.ct_model.specs.State.{at_serial}
use Rattle.ct_model.specs.Waiting.{has_serial}
use Rattle.ct_model.specs.Wire.{value_of}
use Rattle.ct_model.specs.declared.step.Step.{Step}
use Rattle.ct_model.specs.declared.step.Step.TheVariants as step
use Rattle.ct_model.proofs.Basics.Options.{some-same}
use Rattle.ct_show.specs.Facts.Fact.{CrashedIn}
use Rattle.ct_show.specs.Facts.{facts_of, facts_text, last_taking, letter_facts, place, returns, takes, taking_or, texts_of}
use Rattle.ct_judging.specs.Refusing.{crash_of, crash_text, is_crash_of, reason_text}
use Rattle.ct_laws.specs.Facts.{AreTrue, HasCrashed, HasLeft, Tells, reasons_of, serial_in}
use Rattle.ct_laws.proofs.MemberFacts.{standing_true}

-- ---- the last step that takes a serial

module _ (steps : List Step) (k i : ℕ) where
  -- the next step neither takes it nor puts it back
  goes_on : (before : Option (ℕ × Step)) →
      ((t : Step) → slice_get steps i ≡ Some t → (takes t k ≡ false) × (returns t k ≡ false)) → HasLeft steps k i before →
      HasLeft steps k (suc i) before
  goes_on None passes h = λ n s l. elim (eq-or-lt_of_le l.within) [
    | inl same ↦ contrary (takes s k) l.taken (passes s (subst (λ n. at_serial steps n ≡ Some s) same l.there)).0
    | inr less ↦ h n s (record {
      within = omega (arith, less);
      there = l.there;
      taken = l.taken;
      last = λ later other low high at. l.last later other low (omega (arith, high)) at;
    })
  ]
  goes_on (Some t) passes h = record {
    within = omega (arith, h.within);
    there = h.there;
    taken = h.taken;
    last = λ later other low high at. elim (eq-or-lt_of_le high) [
      | inl same ↦ passes other (subst (λ n. at_serial steps n ≡ Some other) same at)
      | inr less ↦ h.last later other low (omega (arith, less)) at
    ];
  }

  -- it does one of these, or neither
  by_tests : (before : Option (ℕ × Step)) (t : Step) (taking returning : Bool) → takes t k ≡ taking → returns t k ≡ returning →
      slice_get steps i ≡ Some t → HasLeft steps k i before →
      HasLeft steps k (suc i) (if taking then Some (suc i, t) else (if returning then None else before))
  by_tests before t true returning is back at h = record {
    within = omega arith;
    there = at;
    taken = is;
    last = λ later other low high there. absurd (omega (arith, low, high));
  }
  by_tests before t false true is back at h = λ n s l. elim (eq-or-lt_of_le l.within) [
    | inl same ↦
        contrary (takes s k) l.taken
        (subst (λ x. takes x k ≡ false) (some-same t s (sym at ∙ subst (λ n. at_serial steps n ≡ Some s) same l.there)) is)
    | inr less ↦ contrary (returns t k) back (l.last (suc i) t less (omega arith) at).1
  ]
  by_tests before t false false is back at h =
      goes_on before (λ x there. subst (λ y. (takes y k ≡ false) × (returns y k ≡ false)) (some-same t x (sym at ∙ there)) (is, back)) h

  next_left : (before : Option (ℕ × Step)) (o : Option Step) → slice_get steps i ≡ o → HasLeft steps k i before →
      HasLeft steps k (suc i) (taking_or before k (suc i) o)
  next_left before None at h = goes_on before (λ t there. absurd (cc (sym at ∙ there))) h
  next_left before (Some t) at h = by_tests before t (takes t k) (returns t k) refl refl at h

pub has_left : (steps : List Step) (k count : ℕ) → HasLeft steps k count (last_taking steps k count)
has_left steps k zero = λ n s l. none n l.within l.there
  where
    none : {s : Step} (n : ℕ) → n ≤ 0 → at_serial steps n ≡ Some s → ⊥
    none zero low at = cc at
    none (suc n) low at = omega (arith, low)
has_left steps k (suc i) = next_left steps k i (last_taking steps k i) (slice_get steps i) refl (has_left steps k i)

-- ---- the envelope that a step names

module _ (w : Rehearsal) (p k : ℕ) where
  place_true : (r : Refusal) (e : Envelope) → at_serial (state_of w).sent k ≡ Some e →
      (r ≡ refusal.StillWaiting → has_serial k (line_of w p) ≡ true) → AreTrue w p k r (place w k e.to r)
  place_true refusal.NotSent e is waits = ((e, is, refl), tt)
  place_true refusal.StillWaiting e is waits = (waits refl, tt)
  place_true refusal.NotWaiting e is waits = ((e, is, refl), (has_left w.steps k (length w.steps), tt))
  place_true _ e is waits = ((e, is, refl), tt)

  sent_true : (r : Refusal) (o : Option Envelope) → at_serial (state_of w).sent k ≡ o →
      (r ≡ refusal.StillWaiting → has_serial k (line_of w p) ≡ true) → AreTrue w p k r (letter_facts w k (option_map without_value o) r)
  sent_true r None is waits = ((refl, is, refl), tt)
  sent_true r (Some e) is waits =
      let carried = ap (λ o. unwrap_or (option_and_then (λ (e : Envelope). value_of e.wire) o) []) is in
      ((refl, (e, is, (refl, carried))), place_true r e is waits)

-- ---- the step in which a member crashed

crash_is : (p : ℕ) (s : Step) → is_crash_of p s ≡ true → s ≡ step.Crash p
crash_is p s h = grind (arith, nat_tests)

no_crash : (p : ℕ) (steps : List Step) (number : ℕ) → position (is_crash_of p) steps ≡ None →
    at_serial steps number ≡ Some (step.Crash p) → ⊥
no_crash p steps zero none at = cc at
no_crash p [] (suc i) none at = cc at
no_crash p (s ∷ steps) (suc i) none at = grind (arith, nat_tests, no_crash p steps i)

crashed : (steps : List Step) (p : ℕ) → HasCrashed steps p (crash_of steps p)
unfolding crash_of
crashed steps p = by (position (is_crash_of p) steps) refl
  where
    by : (o : Option ℕ) → position (is_crash_of p) steps ≡ o → HasCrashed steps p (option_map (λ i. i + 1) o)
    by None is = λ number at. no_crash p steps number is at
    by (Some i) is =
        let f = position-Some (is_crash_of p) steps i (step.Crash p) is in
        let next : suc i ≡ i + 1 = omega arith in
        subst (λ n. at_serial steps n ≡ Some (step.Crash p)) next
        (slice_get-get_or steps i (step.Crash p) f.0 ∙ ap Some (crash_is p (get_or steps i (step.Crash p)) f.1))

-- ---- a step, and its line

steps_true : (w : Rehearsal) (s : Step) (r : Refusal) → cause w s ≡ Some r → IsMember w.setting.members (actor s) →
    AreTrue w (actor s) (serial_in s) r (facts_of w s r)
unfolding cause limit
steps_true w (step.Receive p k) r h there = sent_true w p k r (at_serial (state_of w).sent k) refl (λ same. grind arith)
steps_true w (step.Postpone p k) r h there = sent_true w p k r (at_serial (state_of w).sent k) refl (λ same. grind arith)
steps_true w (step.Lose p k) r h there = sent_true w p k r (at_serial (state_of w).sent k) refl (λ same. grind arith)
steps_true w (step.Repeat p k) r h there = sent_true w p k r (at_serial (state_of w).sent k) refl (λ same. grind arith)
steps_true w s r h there = standing_true w (actor s) (serial_in s) r there

pub tells_step : (w : Rehearsal) (s : Step) (r : Refusal) → cause w s ≡ Some r → IsMember w.setting.members (actor s) →
    Tells w (actor s) (serial_in s) r (facts_of w s r) (facts_text w s r)
unfolding facts_text
tells_step w s r h there = record { is = refl; are = steps_true w s r h there }

member_there : (w : Rehearsal) (s : Step) (r : Refusal) → cause w s ≡ Some r → (r ≡ refusal.NoSuchMember → ⊥) →
    IsMember w.setting.members (actor s)
unfolding cause
member_there w s r h other = grind (arith, nat_tests)

crash_told : (o : Option ℕ) → crash_text o ≡ texts_of (CrashedIn o ∷ [])
crash_told None = refl
crash_told (Some number) = sym (append-nil _)

pub tells_line : (w : Rehearsal) (s : Step) (r : Refusal) → cause w s ≡ Some r →
    Tells w (actor s) (serial_in s) r (reasons_of w s r) (reason_text w s r)
tells_line w s refusal.NoSuchMember h = record { is = sym (append-nil _); are = (refl, tt) }
tells_line w s refusal.Crashed h =
    record { is = crash_told (crash_of w.steps (actor s)); are = (crashed w.steps (actor s), tt) }
tells_line w s refusal.BadCommand h = record { is = sym (append-nil _); are = (tt, tt) }
tells_line w s (refusal.Full l) h = record { is = sym (append-nil _); are = ((l, refl, refl), tt) }
tells_line w s r h = tells_step w s r h (member_there w s r h (λ same. cc same))
