-- The first of a line that passes a test, found among all that do.
use Rattle.std.proofs.Common.{◌≡◌, ℕ, zero, suc, ◌-◌, ◌<◌, ◌≤◌, Bool, true, false, List, [], ◌∷◌, length, get_or, Option, None, Some}
use Rattle.std.proofs.Common.{ap, ◌∙◌, arith, ◌⊎◌, inl, inr, refl, sym}
use Rattle.std.specs.Prelude.{◌==◌, find, is_some, if◌then◌else◌, min, position, slice_get, unwrap_or}
use Rattle.std.proofs.lemmas.Bool.{cases_eq, cases_lt}
use Rattle.std.proofs.lemmas.Bool.Decides.{nat_tests}
use Rattle.std.proofs.lemmas.List.Folds.{list_any_at}
use Rattle.std.proofs.lemmas.List.Quantifiers.{position-Some}
use Rattle.std.proofs.lemmas.Option.{get_or_from_slice_get, slice_get-get_or, slice_get_past, slice_get_within}
use Rattle.ct_names.specs.Group.{is_member}
use Rattle.ct_model.specs.AtValue.{Envelope}
use Rattle.ct_model.specs.Lawful.{IsLawful, IsLetter}
use Rattle.ct_model.specs.Mapped.{without_value}
use Rattle.ct_model.specs.Rehearsal.{Rehearsal, line_of, state_of}
use Rattle.ct_model.proofs.Basics.Tests.{and_left, number_same}
use Rattle.ct_model.proofs.Record.Envelopes.{waiting_letter}
use Rattle.ct_world.proofs.Basics.Places.{is_some-position}
use Rattle.ct_grammar.specs.declared.carried.Carried.{Carried}
use Rattle.ct_play.specs.Indexing.{IsLastTo, is_at}
use Rattle.ct_play.specs.Picking.{is_carried, is_from, is_so, sender_of, waiting_at, waits_at}

-- the numbers in the line above a serial that pass the test stand at a place or behind it, and so does what stands there
pub record IsFound (test : ℕ → Bool) (line : List ℕ) (serial first : ℕ) : Type 0 where
  pub below : (i k : ℕ) → slice_get line i ≡ Some k → test k ≡ true → serial < k → first ≤ i
  pub here : (k : ℕ) → slice_get line first ≡ Some k → test k ≡ true

-- at first: behind the last serial none passes
pub found_none : (test at : ℕ → Bool) (line : List ℕ) (n r : ℕ) → ((i k : ℕ) → slice_get line i ≡ Some k → test k ≡ true →
    (at k ≡ true) × (k ≤ n)) → IsLastTo at n r → IsFound test line r (length line)
found_none test at line n r named h = record {
  below = λ i k there is above.
      let x = named i k there is in
      absurd (cc (x.0, h.none k above x.1));
  here = λ k there. absurd (cc (there, slice_get_past line (length line) (omega arith)));
}

above_none : (test : ℕ → Bool) (k : ℕ) → test 0 ≡ false → test k ≡ true → 0 < k
above_none test zero off is = absurd (cc)
above_none test (suc k) off is = omega arith

-- the rest of the line
rest_found : (test : ℕ → Bool) (k : ℕ) (line : List ℕ) (i : ℕ) → IsFound test (k ∷ line) 0 (suc i) → IsFound test line 0 i
rest_found test k line i f = record {
  below = λ j x there is above. let low : suc i ≤ suc j = f.below (suc j) x there is above in omega arith;
  here = λ x there. f.here x there;
}

first_here : (test : ℕ → Bool) (k : ℕ) (line : List ℕ) (first : ℕ) (b : Bool) → test 0 ≡ false → test k ≡ b →
    IsFound test (k ∷ line) 0 first → ((i : ℕ) → IsFound test line 0 i → find test line ≡ slice_get line i) →
    find test (k ∷ line) ≡ slice_get (k ∷ line) first
first_here test k line zero true off is f rest = rw is refl
first_here test k line (suc i) true off is f rest =
    let low : suc i ≤ 0 = f.below 0 k refl is (above_none test k off is) in absurd (omega arith)
first_here test k line zero false off is f rest = absurd (cc (is, f.here k refl))
first_here test k line (suc i) false off is f rest = rw is (rest i (rest_found test k line i f))

-- all of them: what stands there is the first
pub first_found : (test : ℕ → Bool) (line : List ℕ) (first : ℕ) → test 0 ≡ false → IsFound test line 0 first →
    find test line ≡ slice_get line first
first_found test [] first off f = refl
first_found test (k ∷ line) first off f = first_here test k line first (test k) off refl f (λ i g. first_found test line i off g)

-- a number that stands in the line has a place, and none before it
module _ (line : List ℕ) (k : ℕ) where
  pub no_place : (i : ℕ) → slice_get line i ≡ Some k → position (λ x. x == k) line ≡ None → ⊥
  no_place i there none =
      let within : i < length line = slice_get_within line i k there in
      let at : get_or line i 0 ≡ k = get_or_from_slice_get line i k 0 there in
      let is : (get_or line i 0 == k) ≡ true = rw at (grind (arith, nat_tests)) in
      cc (list_any_at (λ x. x == k) line i 0 within is, is_some-position (λ x. x == k) line, ap is_some none)

  low_place : (i j : ℕ) → slice_get line i ≡ Some k → position (λ x. x == k) line ≡ Some j → j ≤ i
  low_place i j there is = elim (cases_lt i j) [
    | inl before ↦
        let at : get_or line i 0 ≡ k = get_or_from_slice_get line i k 0 there in
        let off = (position-Some (λ x. x == k) line j 0 is).2 i before in
        absurd (grind (arith, nat_tests, at, off))
    | inr low ↦ low
  ]

  its_place : (j : ℕ) → position (λ x. x == k) line ≡ Some j → slice_get line j ≡ Some k
  its_place j is =
      let at = position-Some (λ x. x == k) line j 0 is in
      let same : get_or line j 0 ≡ k = grind (arith, nat_tests, at.1) in
      slice_get-get_or line j 0 at.0 ∙ ap Some same

-- the next serial counts
module _ (test at : ℕ → Bool) (line : List ℕ) (n serial r first : ℕ) (named : (i k : ℕ) → slice_get line i ≡ Some k → test k ≡ true →
    (at k ≡ true) × (k ≤ n)) (last : IsLastTo at (serial - 1) r) (found : IsFound test line serial first) where
  found_next : (next : ℕ) → next ≤ first → ((i : ℕ) → slice_get line i ≡ Some serial → test serial ≡ true → next ≤ i) →
      (next ≡ first) ⊎ ((slice_get line next ≡ Some serial) × (test serial ≡ true)) → IsFound test line r next
  found_next next low mine is = record {
    below = λ i k there h above. elim (cases_lt serial k) [
      | inl over ↦ let far : first ≤ i = found.below i k there h over in omega arith
      | inr under ↦ elim (cases_eq k serial) [
        | inl e ↦ mine i (there ∙ ap Some e) (sym (ap test e) ∙ h)
        | inr other ↦ absurd (cc ((named i k there h).0, last.none k above (omega (arith, other))))
      ]
    ];
    here = λ k there. elim is [
      | inl e ↦ found.here k (sym (ap (slice_get line) e) ∙ there)
      | inr x ↦ let e : serial ≡ k = cc (x.0, there) in sym (ap test e) ∙ x.1
    ];
  }

  -- not if it does not pass
  pub found_past : test serial ≡ false → IsFound test line r first
  found_past off = found_next first (omega arith) (λ i there on. absurd (cc (off, on))) (inl refl)

  -- by its place if it does
  pub found_at : (place : Option ℕ) → test serial ≡ true → place ≡ position (λ k. k == serial) line →
      IsFound test line r (min first (unwrap_or place first))
  found_at None on is =
      found_next (min first first) (omega arith) (λ i there _. absurd (no_place line serial i there (sym is))) (inl (omega arith))
  found_at (Some j) on is =
      found_next (min first j) (omega arith)
      (λ i there _. let low : j ≤ i = low_place line serial i j there (sym is) in omega arith)
      (elim (cases_lt j first) [
        | inl less ↦ let e : min first j ≡ j = omega arith in inr (ap (slice_get line) e ∙ its_place line serial j (sym is), on)
        | inr more ↦ inl (omega arith)
      ])

-- ---- a member's waiting line

-- a line for members, and none for others
line_there : (b : Bool) (line : List ℕ) (i k : ℕ) → slice_get (unwrap_or (if b then Some line else None) []) i ≡ Some k →
    slice_get line i ≡ Some k
line_there true line i k there = there
line_there false line i k there = absurd (cc)

place_there : (b : Bool) (line : List ℕ) (k : ℕ) → (if b then position (λ x. x == k) line else None)
    ≡ position (λ x. x == k) (unwrap_or (if b then Some line else None) [])
place_there true line k = refl
place_there false line k = refl

module _ (w : Rehearsal) (p : ℕ) where
  pub place_is : (k : ℕ) → (if is_member w.setting.members p then position (λ x. x == k) (line_of w p) else None)
      ≡ position (λ x. x == k) (waiting_at w p)
  unfolding waiting_at
  place_is k = place_there (is_member w.setting.members p) (line_of w p) k

  pub waits_found : (k : ℕ) → is_some (if is_member w.setting.members p then position (λ x. x == k) (line_of w p) else None)
      ≡ waits_at w p k
  unfolding waits_at
  waits_found k = ap is_some (place_is k) ∙ is_some-position (λ x. x == k) (waiting_at w p)

  named_letter : (carried : Carried) (from : Option ℕ) (k : ℕ) (e : Envelope) → IsLetter (state_of w) p k e →
      is_so w carried from k ≡ true →
      (is_at (state_of w).sent (record { to = p; carried = carried }) k ≡ true) × (k ≤ length (state_of w).sent)
  unfolding is_so
  named_letter carried from zero e l so = absurd (let some : 1 ≤ zero = l.positive in omega arith)
  named_letter carried from (suc j) e l so =
      let same : suc j - 1 ≡ j = omega arith in
      let there : slice_get (state_of w).sent j ≡ Some e = ap (slice_get (state_of w).sent) (sym same) ∙ l.there in
      let goes : (e.to == p) ≡ true = number_same e.to p l.to in
      let so_there = rw there at so in (
        rw (there, goes) (and_left (is_carried carried (Some (without_value e))) (is_from from (sender_of w (suc j))) so_there),
        slice_get_within (state_of w).sent j e there,
      )

  -- what waits was sent to the member
  pub named_there : (carried : Carried) (from : Option ℕ) → IsLawful w → (i k : ℕ) → slice_get (waiting_at w p) i ≡ Some k →
      is_so w carried from k ≡ true →
      (is_at (state_of w).sent (record { to = p; carried = carried }) k ≡ true) × (k ≤ length (state_of w).sent)
  unfolding waiting_at
  named_there carried from law i k there so =
      let line : slice_get (line_of w p) i ≡ Some k = line_there (is_member w.setting.members p) (line_of w p) i k there in
      let within : i < length (line_of w p) = slice_get_within (line_of w p) i k line in
      let at : get_or (line_of w p) i 0 ≡ k = get_or_from_slice_get (line_of w p) i k 0 line in
      let is : (get_or (line_of w p) i 0 == k) ≡ true = rw at (grind (arith, nat_tests)) in
      let letter = waiting_letter w p k law (list_any_at (λ x. x == k) (line_of w p) i 0 within is) in
      named_letter carried from k letter.0 letter.1 so
