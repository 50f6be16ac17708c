-- What is claimed of last steps and of the order of messages.
use Rattle.std.proofs.Common.{◌≡◌, inl, inr, ◌-◌, ◌≤◌, ◌<◌, ◌==◌, ℕ, zero, suc, Bool, true, false, not, ◌&&◌, List, [], ◌∷◌}
use Rattle.std.proofs.Common.{◌++◌, length, refl, ap, ap₂, sym, ◌∙◌, subst, arith, Option, Some, None, option_map, slice_get, nat_lt}
use Rattle.std.proofs.Common.{eqb-true}
use Rattle.std.proofs.Common.{ltb-true, mod-lt, position}
use Rattle.std.proofs.lemmas.Bool.Decides.{nat_tests}
use Rattle.std.specs.List.{list_any}
use Rattle.ct_names.specs.Group.{IsMember, coordinator, is_member}
use Rattle.ct_names.specs.Membership.{IsIn}
use Rattle.ct_names.specs.Message.{Message}
use Rattle.ct_names.specs.Value.{Value}
use Rattle.ct_names.proofs.Lists.{both, both-left, both-right, contrary, found-list_any, list_any-found, not-true}
use Rattle.ct_model.specs.AtValue.{Standing}
use Rattle.ct_model.specs.Mapped.{without_value}
use Rattle.ct_model.specs.Rehearsal.{Rehearsal, state_of}
use Rattle.ct_model.specs.State.{at_serial, is_crashed}
use Rattle.ct_model.specs.declared.step.Step.{Step}
use Rattle.ct_model.specs.declared.step.Step.TheVariants.{Choose, Conclude, Follow, Receive, Suspect}
use Rattle.ct_model.proofs.Basics.Tests.{not_true, or_cases, self_number}
use Rattle.ct_world.specs.Standing.{heard_by}
use Rattle.ct_world.specs.World.{if_member, member_of}
use Rattle.ct_grammar.specs.declared.carried.Carried.{Carried}
use Rattle.ct_grammar.specs.declared.carried.Carried.TheVariants.{Dec, Prop}
use Rattle.ct_grammar.specs.declared.claim.Name.{Name}
use Rattle.ct_play.specs.Claims.{any_to, chooses_unseen, concludes_again, decides_again, follows, gets, has_got, is_again, is_earlier}
use Rattle.ct_play.specs.Claims.{is_led}
use Rattle.ct_play.specs.Facts.{is_named}
use Rattle.ct_play.specs.Claims.{is_unseen, last_step, stands_before, suspects_up, was_other}
use Rattle.ct_play.specs.Facts.{place_of}
use Rattle.ct_play.specs.Picking.{is_carried, is_so}
use Rattle.ct_laws.specs.Facts.{Stands}
use Rattle.ct_laws.specs.Showing.{DecidesAgain, EndsWith, IsBefore, IsLed, IsUnseen}
use Rattle.ct_laws.proofs.Expecting.Members.{place, place_is}
use Rattle.ct_laws.proofs.MemberFacts.{is_there, of_group}

-- ---- the order of messages

before_by : (list : List Message) (one other : Name) (a b : Option ℕ) → position (is_named one) list ≡ a →
    position (is_named other) list ≡ b → is_earlier a b ≡ true → IsBefore list one other
before_by list one other (Some i) (Some j) is so h = (i, j, is, so, ltb-true i j h)
before_by list one other _ _ is so h = absurd (cc h)

pub before_so : (list : List Message) (one other : Name) → stands_before list one other ≡ true → IsBefore list one other
unfolding stands_before
before_so list one other h =
    before_by list one other (position (is_named one) list) (position (is_named other) list) refl refl h

pub so_before : (list : List Message) (one other : Name) → IsBefore list one other → stands_before list one other ≡ true
unfolding stands_before
so_before list one other h =
    let earlier : nat_lt h.0 h.1 ≡ true = grind (arith, nat_tests, h.4) in
    ap₂ is_earlier h.2 h.3 ∙ earlier

-- ---- the last step

next : (x y : Step) (steps : List Step) → suc (length (y ∷ steps) - 1) ≡ length (x ∷ y ∷ steps) - 1
next x y steps = omega arith

ends : (steps : List Step) (step : Step) → slice_get steps (length steps - 1) ≡ Some step →
    (before : List Step) × (steps ≡ before ++ step ∷ [])
ends [] step h = absurd (cc h)
ends (x ∷ []) step h = let same : x ≡ step = cc h in ([], ap (λ z. z ∷ []) same)
ends (x ∷ y ∷ steps) step h =
    let more = ends (y ∷ steps) step (ap (λ i. slice_get (x ∷ y ∷ steps) i) (next x y steps) ∙ h) in (x ∷ more.0, ap (λ l. x ∷ l) more.1)

at_end : (before : List Step) (step : Step) → slice_get (before ++ step ∷ []) (length (before ++ step ∷ []) - 1) ≡ Some step
at_end [] step = refl
at_end (x ∷ []) step = refl
at_end (x ∷ y ∷ before) step =
    ap (λ i. slice_get (x ∷ y ∷ (before ++ step ∷ [])) i) (sym (next x y (before ++ step ∷ []))) ∙ at_end (y ∷ before) step

ends_so : (w : Rehearsal) (step : Step) → last_step w ≡ Some step → EndsWith w step
unfolding last_step
ends_so w step h = ends w.steps step h

so_ends : (w : Rehearsal) (step : Step) → EndsWith w step → last_step w ≡ Some step
unfolding last_step
so_ends w step h = ap (λ (l : List Step). slice_get l (length l - 1)) h.1 ∙ at_end h.0 step

-- ---- follow

pub follows_so : (w : Rehearsal) (p k : ℕ) (o : Option Step) → last_step w ≡ o → follows w p k o ≡ true →
    EndsWith w (Follow p) × ((member_of w p).last ≡ k)
follows_so w p k (Some (Follow q)) is h =
    let same = eqb-true q p (both-left (q == p) ((member_of w p).last == k) h) in (
      ends_so w (Follow p) (is ∙ ap (λ x. Some (Follow x)) same),
      eqb-true (member_of w p).last k (both-right (q == p) ((member_of w p).last == k) h),
    )
follows_so w p k _ is h = absurd (cc h)

pub so_follows : (w : Rehearsal) (p k : ℕ) → EndsWith w (Follow p) → (member_of w p).last ≡ k → follows w p k (last_step w) ≡ true
so_follows w p k end is =
    ap (follows w p k) (so_ends w (Follow p) end)
    ∙ both (p == p) ((member_of w p).last == k) (self_number p) (ap (λ n. n == k) is ∙ self_number k)

-- ---- suspicion

coordinates : (n p r : ℕ) → IsMember n p → IsMember n (coordinator n r)
coordinates n p r h =
    let some : 0 < n = omega (arith, h.0, h.1) in
    let less = mod-lt r some in
    (omega arith, omega (arith, less))

pub none_of : (b : Bool) → not (b && false) ≡ true
none_of b = grind arith

-- a serial up to n of which it is so
abbrev OneOf : (ℕ → Bool) → ℕ → Type 0
OneOf test n = (k : ℕ) × (1 ≤ k) × (k ≤ n) × (test k ≡ true)

one_of : (test : ℕ → Bool) (n : ℕ) → any_to test n ≡ true → OneOf test n
one_of test zero h = absurd (cc h)
one_of test (suc n) h = elim (or_cases (any_to test n) (test (suc n)) h) [
  | inl before ↦ let f = one_of test n before in (f.0, f.1, omega (arith, f.2), f.3)
  | inr here ↦ (suc n, omega arith, omega arith, here)
]

any_of : (test : ℕ → Bool) (n k : ℕ) → 1 ≤ k → k ≤ n → test k ≡ true → any_to test n ≡ true
any_of test zero k low high h = absurd (omega (arith, low, high))
any_of test (suc n) k low high h = grind (arith, any_of test n k)

module _ (w : Rehearsal) (p : ℕ) (member : IsMember w.setting.members p) where
  led_by : (o : Option Standing) → (member_of w p).current ≡ o → is_led w (option_map place o) ≡ true →
      Stands w p (λ c. IsLed w c.round)
  led_by None is h = absurd (cc h)
  led_by (Some c) is h =
      let q = coordinator w.setting.members c.round in
      let there = is_there w.setting.members q (coordinates w.setting.members p c.round member) in
      (c, is, not-true (is_crashed (state_of w) q) (sym (ap (λ b. not (b && is_crashed (state_of w) q)) there) ∙ h))

  pub suspects_so : (o : Option Step) → last_step w ≡ o → suspects_up w p o ≡ true →
      EndsWith w (Suspect p) × Stands w p (λ c. IsLed w c.round)
  suspects_so (Some (Suspect q)) is h =
      let same = eqb-true q p (both-left (q == p) (is_led w (place_of w p)) h) in (
        ends_so w (Suspect p) (is ∙ ap (λ x. Some (Suspect x)) same),
        led_by (member_of w p).current refl
            (sym (ap (is_led w) (place_is w p member)) ∙ both-right (q == p) (is_led w (place_of w p)) h),
      )
  suspects_so _ is h = absurd (cc h)

  pub so_suspects : EndsWith w (Suspect p) →
      Stands w p (λ c. IsLed w c.round) →
      suspects_up w p (last_step w) ≡ true
  so_suspects end h =
      let q = coordinator w.setting.members h.0.round in
      ap (suspects_up w p) (so_ends w (Suspect p) end)
      ∙ both (p == p) (is_led w (place_of w p)) (self_number p)
      (ap (is_led w) (place_is w p member) ∙ ap (λ o. is_led w (option_map place o)) h.1
      ∙ ap (λ b. not (is_member w.setting.members q && b)) h.2 ∙ none_of (is_member w.setting.members q))

  -- ---- choice

  -- what the envelope of a serial carries
  abbrev has : Carried → ℕ → Bool
  has carried k = is_carried carried (option_map without_value (at_serial (state_of w).sent k))

  abbrev Receives : Carried → Step → Type 0
  Receives carried step = (k : ℕ) × (step ≡ Receive p k) × (has carried k ≡ true)

  receives : (carried : Carried) (step : Step) → gets w p carried step ≡ true → Receives carried step
  receives carried (Receive q k) h =
      (k, ap (λ x. Receive x k) (eqb-true q p (both-left (q == p) (has carried k) h)), both-right (q == p) (has carried k) h)
  receives carried _ h = absurd (cc h)

  not_got : (carried : Carried) → has_got w p carried ≡ false → (k : ℕ) → IsIn (Receive p k) w.steps → has carried k ≡ false
  unfolding has_got
  not_got carried none k at =
      not_true (has carried k) (λ so. contrary (list_any (gets w p carried) w.steps)
      (list_any-found (gets w p carried) (Receive p k) w.steps at (both (p == p) (has carried k) (self_number p) so)) none)

  got_not : (carried : Carried) → ((k : ℕ) → IsIn (Receive p k) w.steps → has carried k ≡ false) → has_got w p carried ≡ false
  unfolding has_got
  got_not carried none =
      not_true (list_any (gets w p carried) w.steps) (λ some.
      let f = found-list_any (gets w p carried) w.steps some in
      let r = receives carried f.item f.passes in
      contrary (has carried r.0) r.2 (none r.0 (subst (λ x. IsIn x w.steps) r.1 f.is_in)))

  unseen_by : (q : ℕ) (o : Option (Value × ℕ)) → heard_by (member_of w p) q ≡ o → is_unseen w p o ≡ true → IsUnseen w p q
  unseen_by q None is h = absurd (cc h)
  unseen_by q (Some e) is h =
      let more = nat_lt 0 e.1 in
      let none = not (has_got w p (Prop (member_of w p).last e.1)) in (
        e.0,
        e.1,
        is,
        ltb-true 0 e.1 (both-left more none h),
        not_got (Prop (member_of w p).last e.1) (not-true (has_got w p (Prop (member_of w p).last e.1)) (both-right more none h)),
      )

  pub chooses_so : (o : Option Step) → last_step w ≡ o → chooses_unseen w p o ≡ true → (q : ℕ) × EndsWith w (Choose p q) × IsUnseen w p q
  chooses_so (Some (Choose q from)) is h =
      let heard = if_member w p (heard_by (member_of w p) from) in
      let same = eqb-true q p (both-left (q == p) (is_unseen w p heard) h) in (
        from,
        ends_so w (Choose p from) (is ∙ ap (λ x. Some (Choose x from)) same),
        unseen_by from (heard_by (member_of w p) from) refl
            (sym (ap (is_unseen w p) (of_group w p (heard_by (member_of w p) from) member)) ∙ both-right (q == p) (is_unseen w p heard) h),
      )
  chooses_so _ is h = absurd (cc h)

  pub so_chooses : (q : ℕ) → EndsWith w (Choose p q) → IsUnseen w p q → chooses_unseen w p (last_step w) ≡ true
  so_chooses q end h =
      let ts = h.1 in
      let carried = Prop (member_of w p).last ts in
      let more : nat_lt 0 ts ≡ true = grind (arith, nat_tests, h.3) in
      ap (chooses_unseen w p) (so_ends w (Choose p q) end)
      ∙ both (p == p) (is_unseen w p (if_member w p (heard_by (member_of w p) q))) (self_number p)
      (ap (is_unseen w p) (of_group w p (heard_by (member_of w p) q) member ∙ h.2)
      ∙ both (nat_lt 0 ts) (not (has_got w p carried)) more (ap not (got_not carried h.4)))

  -- ---- conclusion

  again_by : (o : Option Standing) → (member_of w p).current ≡ o → is_again w p (option_map place o) ≡ true →
      Stands w p (λ c. DecidesAgain w p c.round)
  unfolding decides_again
  again_by None is h = absurd (cc h)
  again_by (Some c) is h =
      let k = (member_of w p).last in
      let n = length (state_of w).sent in
      let own = any_to (is_so w (Dec k c.round) (Some p)) n in
      let other = any_to (was_other w k c.round) n in (
        c,
        is,
        (
          one_of (is_so w (Dec k c.round) (Some p)) n (both-left own other h),
          one_of (was_other w k c.round) n (both-right own other h),
        ),
      )

  pub concludes_so : (o : Option Step) → last_step w ≡ o → concludes_again w p o ≡ true →
      EndsWith w (Conclude p)
      × Stands w p (λ c. DecidesAgain w p c.round)
  concludes_so (Some (Conclude q)) is h =
      let same = eqb-true q p (both-left (q == p) (is_again w p (place_of w p)) h) in (
        ends_so w (Conclude p) (is ∙ ap (λ x. Some (Conclude x)) same),
        again_by (member_of w p).current refl
            (sym (ap (is_again w p) (place_is w p member)) ∙ both-right (q == p) (is_again w p (place_of w p)) h),
      )
  concludes_so _ is h = absurd (cc h)

  pub so_concludes : EndsWith w (Conclude p) →
      Stands w p (λ c. DecidesAgain w p c.round) →
      concludes_again w p (last_step w) ≡ true
  unfolding decides_again
  so_concludes end h =
      let k = (member_of w p).last in
      let r = h.0.round in
      let n = length (state_of w).sent in
      ap (concludes_again w p) (so_ends w (Conclude p) end)
      ∙ both (p == p) (is_again w p (place_of w p)) (self_number p)
      (ap (is_again w p) (place_is w p member) ∙ ap (λ o. is_again w p (option_map place o)) h.1
      ∙ both (any_to (is_so w (Dec k r) (Some p)) n) (any_to (was_other w k r) n)
      (any_of (is_so w (Dec k r) (Some p)) n h.2.0.0 h.2.0.1 h.2.0.2 h.2.0.3)
      (any_of (was_other w k r) n h.2.1.0 h.2.1.1 h.2.1.2 h.2.1.3))
