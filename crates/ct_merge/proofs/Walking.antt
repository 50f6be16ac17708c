-- What logs expect, in their order, tested along a run.
use Rattle.ct_merge.proofs.Common.{◌≡◌, ℕ, zero, suc, ◌+◌, ◌<◌, ◌≤◌, List, [], ◌∷◌, ◌++◌, Some, length, ap, sym, refl, ◌∙◌, inl, inr, arith}
use Rattle.ct_merge.proofs.Common.{◌≢◌, ◌==◌, ◌&&◌, Bool, true, false, not, Option, None, subst, append_assoc, append-nil, length-append}
use Rattle.ct_merge.proofs.Common.{take, drop, leb-true, nat_le, slice_get, is_some, option_map, IfSome, some-none, some-same, and_parts}
use Rattle.ct_merge.proofs.Common.{cases_eq, slice_get-get_or, slice_get_past, nat_tests, is_member, actor, Rehearsal, extended, Step}
use Rattle.ct_merge.proofs.Common.{self_number, Played, with_step, whole, Moment, is_own, is_repeat, own, count_of}
use Rattle.ct_merge.specs.Expected.{AllHold, AreOrdered, Expecting, Holds, IsMet, IsMetIn, IsUnmet, behind, expected_of, or_whole}
use Rattle.ct_merge.specs.declared.expectation.Expectation.{Expectation}
use Rattle.ct_merge.proofs.Moments.{get_below, get_last, get_there, no_own, own_front}
use Rattle.ct_merge.specs.Testing.{AreFrom, AreMet, AreTested, Fails, FailsBefore, GoesOnTo, IsFailing, IsTested, StaysTested, Walked}
use Rattle.ct_merge.specs.declared.testing.Unmet.{Unmet}
use Rattle.ct_names.proofs.Groups.{member_from_one}
use Rattle.ct_merge.proofs.Owning.{at, longer, own_joins, own_stays}
use Rattle.ct_merge.proofs.Sameness.{below_or_not}

-- ---- lists

-- behind its end a list has nothing
pub get_none : {A : Type 0} (xs : List A) (i j : ℕ) (x : A) → slice_get xs i ≡ None → i ≤ j → slice_get xs j ≡ Some x → ⊥
get_none xs i j x none le there =
    let low : j < length xs = get_below xs j x there in
    let found = get_there xs i (omega (arith, low, le)) in
    some-none found.0 (sym none ∙ found.1)

pub ruleset got_or = (slice_get-get_or)

-- ---- one member's

module _ (list : List Expectation) (from next place : ℕ) where
  -- the next one stands behind more acts
  pub from_stop : (e : Expectation) → AreOrdered list → from ≤ next → slice_get list next ≡ Some e → e.place ≢ place →
      AreFrom list from place → AreFrom list next (place + 1)
  from_stop e ordered le there ne ahead i d at found =
      let a : place ≤ e.place = ahead next e le there in
      let b : e.place ≤ d.place = ordered next i e d at there found in
      elim (cases_eq e.place place) [
        | inl same ↦ absurd (ne same)
        | inr other ↦ omega (arith, a, b, other)
      ]

  -- there is none
  pub from_end : slice_get list next ≡ None → AreFrom list next (place + 1)
  from_end none i d at found = absurd (get_none list next i d none at found)

  -- one more holds
  pub met_more : (s : Played) (e : Expectation) → slice_get list next ≡ Some e → e.place ≡ place → IsMet e.goal s →
      AreMet list from next place s → AreMet list from (next + 1) place s
  met_more s e there is met before i d low high found = elim (below_or_not i next) [
    | inl less ↦ before i d low less found
    | inr more ↦
        let same : i ≡ next = omega (arith, high, more) in
        let one : e ≡ d = some-same e d (sym there ∙ (ap (slice_get list) (sym same) ∙ found)) in
        (sym (ap (λ (x : Expectation). x.place) one) ∙ is, subst (λ (x : Expectation). IsMet x.goal s) one met)
  ]

  pub met_none : (s : Played) → next ≤ from → AreMet list from next place s
  met_none s le i d low high found = absurd (omega (arith, le, low, high))

pub ruleset holding = (from_stop, from_end, met_more, met_none)

-- no term was found that doesn't hold
pub none_told : {A B : Type 0} (f : A → B) (r : Option A) (o : Option B) → option_map f r ≡ o → is_some r ≡ false → o ≡ None
none_told f None o e s = sym e
none_told f (Some x) o e s = absurd (cc)

-- ---- places in a run

own_later : (v : Rehearsal) (steps : List Step) (p i : ℕ) (m : Moment) → slice_get (own v p) i ≡ Some m →
    slice_get (own (longer v steps) p) i ≡ Some m
own_later v [] p i m there =
    subst (λ (l : List Step). slice_get (own (record v { steps = l }) p) i ≡ Some m) (sym (append-nil v.steps)) there
own_later v (step ∷ steps) p i m there =
    subst (λ (l : List Step). slice_get (own (record v { steps = l }) p) i ≡ Some m) (append_assoc v.steps (step ∷ []) steps)
    (own_later (extended v step) steps p i m (own_front v step p i m there))

-- a record before p's own step is p's place behind the steps before
pub here : (v w : Rehearsal) (step : Step) (p : ℕ) → GoesOnTo v step w → is_own p (at v step) ≡ true →
    behind w p (length (own v p)) ≡ Some v
unfolding behind
here v w step p on mine =
    let k = length (own v p) in
    let joined : slice_get (own (extended v step) p) k ≡ Some (at v step) =
    ap (λ l. slice_get l k) (own_joins v p step mine) ∙ get_last (own v p) (at v step) in
    let later : slice_get (own (longer (extended v step) on.more) p) k ≡ Some (at v step) =
    own_later (extended v step) on.more p k (at v step) joined in
    let same : longer (extended v step) on.more ≡ w =
    ap (λ (l : List Step). record v { steps = l }) (append_assoc v.steps (step ∷ []) on.more) ∙ sym on.is in
    let found : slice_get (own w p) k ≡ Some (at v step) = subst (λ x. slice_get (own x p) k ≡ Some (at v step)) same later in
    ap (or_whole w (length (own w p) == k)) found

-- so is the whole record in the end
pub in_the_end : (w : Rehearsal) (p : ℕ) → behind w p (length (own w p)) ≡ Some w
unfolding behind
in_the_end w p =
    ap (or_whole w (length (own w p) == length (own w p))) (slice_get_past (own w p) (length (own w p)) (omega arith))
    ∙ ap (λ b. or_whole w b None) (self_number (length (own w p)))

other_number : (n k : ℕ) → n < k → (n == k) ≡ false
other_number n k less = grind (arith, nat_tests)

-- p didn't take so many steps
pub never : (w : Rehearsal) (p k : ℕ) → length (own w p) < k → behind w p k ≡ None
unfolding behind
never w p k less =
    ap (or_whole w (length (own w p) == k)) (slice_get_past (own w p) k (omega (arith, less)))
    ∙ ap (λ b. or_whole w b None) (other_number (length (own w p)) k less)

-- what is met at its place holds
pub holds_at : (w v : Rehearsal) (p : ℕ) (e : Expectation) → behind w p e.place ≡ Some v → IsMetIn e.goal v → Holds w p e
holds_at w v p e at_place met = subst (λ o. IfSome o (IsMetIn e.goal)) (sym at_place) met

-- what stands behind more acts than p took steps holds
pub holds_never : (w : Rehearsal) (p : ℕ) (e : Expectation) → behind w p e.place ≡ None → Holds w p e
holds_never w p e none = subst (λ o. IfSome o (IsMetIn e.goal)) (sym none) tt

-- ---- one step more

met_whole : (s : Played) (e : Expectation) → s.sides ≡ whole → IsMet e.goal s → IsMetIn e.goal s.rehearsal
met_whole s e uncut met = subst (λ l. IsMet e.goal (record { rehearsal = s.rehearsal; sides = l })) uncut met

not_own : (q p : ℕ) (b : Bool) → q ≢ p → ((p == q) && not b) ≡ false
not_own q p b ne = grind (arith, nat_tests)

its_own : (p : ℕ) (b : Bool) → b ≡ false → ((p == p) && not b) ≡ true
its_own p b e = grind (arith, nat_tests)

repeated : (q p : ℕ) (b : Bool) → b ≡ true → ((p == q) && not b) ≡ false
repeated q p b e = grind arith

module _ (old new : Walked) (step : Step) (next : new.stage ≡ with_step old.stage step) where
  abbrev v : Rehearsal
  v = old.stage.rehearsal

  grown : new.stage.rehearsal ≡ extended v step
  grown = ap (λ (s : Played). s.rehearsal) next

  -- no own step of q's
  stays : (w : Rehearsal) (q : ℕ) (list : List Expectation) → is_own q (at v step) ≡ false →
      count_of new.taken q ≡ count_of old.taken q → count_of new.tested q ≡ count_of old.tested q → IsTested w list old q →
      IsTested w list new q
  stays w q list other taken tested h =
      let same : own new.stage.rehearsal q ≡ own v q = ap (λ (x : Rehearsal). own x q) grown ∙ own_stays v q step other in
      record {
        taken = taken ∙ (h.taken ∙ sym (ap length same));
        held = λ i e low there. h.held i e (omega (arith, low, tested)) there;
        ahead = λ i e le there. let a : count_of old.taken q ≤ e.place = h.ahead i e (omega (arith, le, tested)) there in
            omega (arith, a, taken);
      }

  -- an own step of p's, before which what is expected there is met
  goes : (w : Rehearsal) (p : ℕ) (list : List Expectation) → GoesOnTo v step w → is_own p (at v step) ≡ true →
      old.stage.sides ≡ whole → count_of new.taken p ≡ count_of old.taken p + 1 →
      AreMet list (count_of old.tested p) (count_of new.tested p) (count_of old.taken p) old.stage →
      AreFrom list (count_of new.tested p) (count_of old.taken p + 1) → IsTested w list old p → IsTested w list new p
  goes w p list on mine uncut taken met ahead h =
      let more : length (own new.stage.rehearsal p) ≡ length (own v p) + 1 =
      ap (λ (x : Rehearsal). length (own x p)) grown ∙ (ap length (own_joins v p step mine) ∙ length-append (own v p) (at v step ∷ [])) in
      record {
        taken = taken ∙ (ap (λ n. n + 1) h.taken ∙ sym more);
        held = λ i e low there. elim (below_or_not i (count_of old.tested p)) [
          | inl before ↦ h.held i e before there
          | inr after ↦
              let m = met i e after low there in
              holds_at w v p e (ap (behind w p) (m.0 ∙ h.taken) ∙ here v w step p on mine) (met_whole old.stage e uncut m.1)
        ];
        ahead = λ i e le there. let a : count_of old.taken p + 1 ≤ e.place = ahead i e le there in omega (arith, a, taken);
      }

-- a step that is nobody's own in the group
pub passed_other : (old new : Walked) (step : Step) (expected : List Expecting) →
    new ≡ record old { stage = with_step old.stage step } →
    ((q : ℕ) → is_member old.stage.rehearsal.setting.members q ≡ true → is_own q (at old.stage.rehearsal step) ≡ false) →
    StaysTested old step expected new
passed_other old new step expected is nobody w on before q in_group =
    let group : is_member old.stage.rehearsal.setting.members q ≡ true =
    subst (λ (x : Rehearsal). is_member x.setting.members q ≡ true) on.is in_group in
    stays old new step (ap (λ (x : Walked). x.stage) is) w q (expected_of expected q) (nobody q group)
    (ap (λ (x : Walked). count_of x.taken q) is) (ap (λ (x : Walked). count_of x.tested q) is) (before q in_group)

nobody_by : (v : Rehearsal) (step : Step) (n q : ℕ) (repeats : Bool) → is_repeat step ≡ repeats →
    (not repeats && is_member n (actor step)) ≡ false → is_member n q ≡ true → is_own q (at v step) ≡ false
nobody_by v step n q true is other in_group = repeated q (actor step) (is_repeat step) is
nobody_by v step n q false is other in_group = elim (cases_eq q (actor step)) [
  | inl same ↦ absurd (let mine : is_member n (actor step) ≡ true = subst (λ x. is_member n x ≡ true) same in_group in cc)
  | inr ne ↦ not_own q (actor step) (is_repeat step) ne
]

-- a step is nobody's own in the group that is a repetition, or another's
pub nobody : (v : Rehearsal) (step : Step) (n : ℕ) → (not (is_repeat step) && is_member n (actor step)) ≡ false →
    (q : ℕ) → is_member n q ≡ true → is_own q (at v step) ≡ false
nobody v step n other q in_group = nobody_by v step n q (is_repeat step) refl other in_group

-- who is a member of a group is no larger
pub few : (repeats : Bool) (n p most : ℕ) → (not repeats && is_member n p) ≡ true → n ≤ most → p ≤ most
few repeats n p most it le =
    let within : is_member n p ≡ true = (and_parts (not repeats) (is_member n p) it).1 in
    let low : p ≤ n = leb-true p n (and_parts (nat_le 1 p) (nat_le p n) within).1 in
    omega (arith, low, le)

-- an own step of a member, of which this is expected
pub passed_own : (old new : Walked) (step : Step) (expected : List Expecting) (list : List Expectation) →
    list ≡ expected_of expected (actor step) → old.stage.sides ≡ whole → new.stage ≡ with_step old.stage step →
    not (is_repeat step) ≡ true → count_of new.taken (actor step) ≡ count_of old.taken (actor step) + 1 →
    ((q : ℕ) → 1 ≤ q → q ≢ actor step → count_of new.taken q ≡ count_of old.taken q) →
    ((q : ℕ) → 1 ≤ q → q ≢ actor step → count_of new.tested q ≡ count_of old.tested q) →
    AreMet list (count_of old.tested (actor step)) (count_of new.tested (actor step)) (count_of old.taken (actor step)) old.stage →
    (AreFrom list (count_of old.tested (actor step)) (count_of old.taken (actor step)) →
    AreFrom list (count_of new.tested (actor step)) (count_of old.taken (actor step) + 1)) →
    StaysTested old step expected new
passed_own old new step expected list is uncut next acts taken others same met ahead w on before q in_group =
    elim (cases_eq q (actor step)) as (λ _. IsTested w (expected_of expected q) new q) [
      | inl mine_is ↦
          let mine : is_own (actor step) (at old.stage.rehearsal step) ≡ true =
          its_own (actor step) (is_repeat step) (let e : is_repeat step ≡ false = grind arith in e) in
          let lists : list ≡ expected_of expected q = is ∙ ap (expected_of expected) (sym mine_is) in
          let tested : IsTested w list old (actor step) =
          subst (λ l. IsTested w l old (actor step)) (sym lists)
          (subst (λ x. IsTested w (expected_of expected q) old x) mine_is (before q in_group)) in
          subst (λ l. IsTested w l new q) lists (subst (λ x. IsTested w list new x) (sym mine_is)
          (goes old new step next w (actor step) list on mine uncut taken met (ahead tested.ahead) tested))
      | inr ne ↦
          let some : 1 ≤ q = member_from_one w.setting.members q in_group in
          stays old new step next w q (expected_of expected q) (not_own q (actor step) (is_repeat step) ne) (others q some ne)
          (same q some ne) (before q in_group)
    ]

-- what is expected before it fails
pub failed_before : (old new : Walked) (step : Step) (expected : List Expecting) (list : List Expectation) →
    list ≡ expected_of expected (actor step) → new.stage ≡ old.stage →
    not (is_repeat step) ≡ true → is_member old.stage.rehearsal.setting.members (actor step) ≡ true →
    IsFailing list (count_of new.tested (actor step)) (count_of old.taken (actor step)) old.stage →
    FailsBefore old step expected new (actor step)
failed_before old new step expected list is same acts in_old f w on before =
    let p = actor step in
    let v = old.stage.rehearsal in
    let mine : is_own p (at v step) ≡ true = its_own p (is_repeat step) (let e : is_repeat step ≡ false = grind arith in e) in
    let in_group : is_member w.setting.members p ≡ true =
    subst (λ (x : Rehearsal). is_member x.setting.members p ≡ true) (sym on.is) in_old in
    record {
      expectation = f.expectation;
      there = ap (λ l. slice_get l (count_of new.tested p)) (sym is) ∙ f.there;
      place =
          ap (behind w p) (f.behind ∙ (before p in_group).taken)
          ∙ (here v w step p on mine ∙ ap (λ (s : Played). Some s.rehearsal) (sym same));
      fails = λ met. f.fails (subst (λ s. IsMet f.expectation.goal s) same met);
    }

-- ---- the end

-- another member was tested
pub stays_there : (w : Rehearsal) (old new : Walked) (q : ℕ) (list : List Expectation) → new.stage ≡ old.stage →
    new.taken ≡ old.taken → count_of new.tested q ≡ count_of old.tested q → IsTested w list old q → IsTested w list new q
stays_there w old new q list stage taken tested h = record {
  taken = ap (λ l. count_of l q) taken ∙ (h.taken ∙ sym (ap (λ (s : Played). length (own s.rehearsal q)) stage));
  held = λ i e low there. h.held i e (omega (arith, low, tested)) there;
  ahead = λ i e le there.
      let a : count_of old.taken q ≤ e.place = h.ahead i e (omega (arith, le, tested)) there in
      let same : count_of new.taken q ≡ count_of old.taken q = ap (λ l. count_of l q) taken in
      omega (arith, a, same);
}

pub next_member : (i n : ℕ) → i < n → is_member n (i + 1) ≡ true
next_member i n low = grind (arith, nat_tests)

member_before : (i p : ℕ) → is_member (i + 1) p ≡ true → p ≢ i + 1 → is_member i p ≡ true
member_before i p it ne = grind (arith, nat_tests)

-- what is so of the first members and of the next one
pub members_more : (P : ℕ → Type 0) (i : ℕ) → ((q : ℕ) → is_member i q ≡ true → P q) → P (i + 1) →
    (p : ℕ) → is_member (i + 1) p ≡ true → P p
members_more P i before last p it = elim (cases_eq p (i + 1)) [
  | inl same ↦ subst P (sym same) last
  | inr ne ↦ before p (member_before i p it ne)
]

module _ (w : Rehearsal) (old new : Walked) (p : ℕ) (list : List Expectation) (tested : IsTested w list old p)
    (all : old.stage.rehearsal ≡ w) where
  pub all_hold : old.stage.sides ≡ whole →
      AreMet list (count_of old.tested p) (count_of new.tested p) (count_of old.taken p) old.stage →
      (AreFrom list (count_of old.tested p) (count_of old.taken p) →
      AreFrom list (count_of new.tested p) (count_of old.taken p + 1)) → AllHold w p list
  all_hold uncut met ahead i e there =
      let count : count_of old.taken p ≡ length (own w p) = tested.taken ∙ ap (λ (x : Rehearsal). length (own x p)) all in
      elim (below_or_not i (count_of old.tested p)) [
        | inl before ↦ tested.held i e before there
        | inr after ↦
            elim (below_or_not i (count_of new.tested p)) [
              | inl low ↦
                  let m = met i e after low there in
                  holds_at w w p e (ap (behind w p) (m.0 ∙ count) ∙ in_the_end w p)
                  (subst (λ x. IsMetIn e.goal x) all (met_whole old.stage e uncut m.1))
              | inr high ↦
                  let a : count_of old.taken p + 1 ≤ e.place = ahead tested.ahead i e high there in
                  holds_never w p e (never w p e.place (omega (arith, a, count)))
            ]
      ]

  pub failed_there : new.stage ≡ old.stage → IsFailing list (count_of new.tested p) (count_of old.taken p) old.stage →
      Fails w list new p
  failed_there same f =
      let count : count_of old.taken p ≡ length (own w p) = tested.taken ∙ ap (λ (x : Rehearsal). length (own x p)) all in
      record {
        expectation = f.expectation;
        there = f.there;
        place =
            ap (behind w p) (f.behind ∙ count)
            ∙ (in_the_end w p ∙ ap (λ x. Some x) (sym (ap (λ (s : Played). s.rehearsal) same ∙ all)));
        fails = λ met. f.fails (subst (λ s. IsMet f.expectation.goal s) same met);
      }

-- one that is told of so fails
pub is_unmet : (w : Rehearsal) (expected : List Expecting) (x : Walked) (p : ℕ) (u : Unmet) → is_member w.setting.members p ≡ true →
    x.stage.sides ≡ whole → Fails w (expected_of expected p) x p → u.member ≡ p → u.index ≡ count_of x.tested p →
    u.stage ≡ x.stage → IsUnmet w expected u
is_unmet w expected x p u in_group uncut f member index stage = record {
  member = subst (λ q. is_member w.setting.members q ≡ true) (sym member) in_group;
  expectation = f.expectation;
  there =
      ap (λ q. slice_get (expected_of expected q) u.index) member
      ∙ (ap (slice_get (expected_of expected p)) index ∙ f.there);
  place =
      ap (λ q. behind w q f.expectation.place) member
      ∙ (f.place ∙ ap (λ (s : Played). Some s.rehearsal) (sym stage));
  uncut = ap (λ (s : Played). s.sides) stage ∙ uncut;
  fails = λ met. f.fails (subst (λ s. IsMet f.expectation.goal s) stage met);
}

-- ---- the beginning

-- nothing was taken
pub none_tested : (w : Rehearsal) (expected : List Expecting) (x : Walked) → x.stage.rehearsal ≡ record w { steps = [] } →
    ((p : ℕ) → count_of x.taken p ≡ 0) → ((p : ℕ) → count_of x.tested p ≡ 0) → AreTested w expected x
none_tested w expected x start taken tested p in_group =
    let bare : own x.stage.rehearsal p ≡ [] = ap (λ (v : Rehearsal). own v p) start ∙ no_own w.setting w.cells p in
    record {
      taken = taken p ∙ sym (ap length bare);
      held = λ i e low there. absurd (omega (arith, low, tested p));
      ahead = λ i e le there. omega (arith, taken p);
    }

-- ---- each step

parted : {A : Type 0} (xs : List A) (i : ℕ) (x : A) → slice_get xs i ≡ Some x → xs ≡ take i xs ++ x ∷ drop (suc i) xs
parted [] i x e = some-none x e
parted (y ∷ xs) zero x e = ap (λ z. z ∷ xs) (some-same y x e)
parted (y ∷ xs) (suc i) x e = ap (λ l. y ∷ l) (parted xs i x e)

one_more : {A : Type 0} (xs : List A) (i : ℕ) (x : A) → slice_get xs i ≡ Some x → take i xs ++ x ∷ [] ≡ take (suc i) xs
one_more [] i x e = some-none x e
one_more (y ∷ xs) zero x e = ap (λ z. z ∷ []) (sym (some-same y x e))
one_more (y ∷ xs) (suc i) x e = ap (λ l. y ∷ l) (one_more xs i x e)

-- the steps before one go on by it to all
pub goes_on_to : (w : Rehearsal) (i : ℕ) (step : Step) → slice_get w.steps i ≡ Some step →
    GoesOnTo (record w { steps = take i w.steps }) step w
goes_on_to w i step there = record {
  more = drop (suc i) w.steps;
  is = ap (λ (l : List Step). record w { steps = l }) (parted w.steps i step there);
}

module _ (w : Rehearsal) (i : ℕ) (step : Step) (old new : Walked) (expected : List Expecting) (there : slice_get w.steps i ≡ Some step)
    (stage : old.stage ≡ record { rehearsal = record w { steps = take i w.steps }; sides = whole }) where
  goes_by : GoesOnTo old.stage.rehearsal step w
  goes_by = subst (λ v. GoesOnTo v step w) (sym (ap (λ (s : Played). s.rehearsal) stage)) (goes_on_to w i step there)

  pub stage_on : new.stage ≡ with_step old.stage step →
      new.stage ≡ record { rehearsal = record w { steps = take (i + 1) w.steps }; sides = whole }
  stage_on next =
      let count : suc i ≡ i + 1 = omega arith in
      next
      ∙ (ap (λ s. with_step s step) stage
      ∙ ap (λ (l : List Step). let s : Played = record { rehearsal = record w { steps = l }; sides = whole } in s)
      (one_more w.steps i step there ∙ ap (λ n. take n w.steps) count))

  pub tested_on : StaysTested old step expected new → AreTested w expected old → AreTested w expected new
  tested_on stays tested = stays w goes_by tested

  pub failed_on : FailsBefore old step expected new (actor step) → AreTested w expected old →
      Fails w (expected_of expected (actor step)) new (actor step)
  failed_on fails tested = fails w goes_by tested
