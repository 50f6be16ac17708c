-- What facts say of the state.
use Rattle.std.proofs.Common.{◌≡◌, inl, inr, ◌+◌, ◌*◌, ◌==◌, ℕ, Bool, true, false, List, [], ◌∷◌, length, map}
use Rattle.std.proofs.Common.{not, refl, ap, sym, ◌∙◌, subst, arith, Option, Some, None, option_map}
use Rattle.std.proofs.Common.{eq-eqb, eqb-true, find}
use Rattle.std.proofs.lemmas.Bool.Decides.{nat_tests}
use Rattle.std.proofs.lemmas.Slice.Eq.{bytes_eq-Decides}
use Rattle.std.specs.Option.{option_map_or}
use Rattle.std.specs.Prelude.{if◌then◌else◌, is_none, unwrap_or}
use Rattle.ct_names.specs.Group.{IsMember, everyone, is_member}
use Rattle.ct_names.specs.MemberSet.{bits_of, has_member, number_of}
use Rattle.ct_names.specs.Membership.{IsIn}
use Rattle.ct_names.specs.Value.{Value}
use Rattle.ct_names.proofs.Lists.{IsIn-filter, IsIn-map, found-find, list_any-found}
use Rattle.ct_names.proofs.MemberSets.{has_member-in, in-has_member}
use Rattle.ct_model.specs.AtValue.{Standing}
use Rattle.ct_model.specs.contracts.phase.PhasePartialEq.TheImpl.{ghosts as phases}
use Rattle.ct_model.specs.Next.{own_ballots}
use Rattle.ct_model.specs.Received.{Heard as HeardOf, has_ack, heard, is_ack, received_by}
use Rattle.ct_model.specs.Rehearsal.{Rehearsal, line_of, state_of}
use Rattle.ct_model.specs.State.{delivered, is_crashed}
use Rattle.ct_model.specs.declared.phase.Phase.{Phase}
use Rattle.ct_model.specs.declared.wire.Wire.TheVariants.{Ack, Est}
use Rattle.ct_model.proofs.Consensus.Readings.{acked-of, acker-got, estimate_from-in, estimates-got, heard-in}
use Rattle.ct_table.specs.Table.{table}
use Rattle.ct_world.specs.Standing.{acked_by, all_heard_by, estimate_by}
use Rattle.ct_world.specs.World.{if_member, member_of}
use Rattle.ct_grammar.specs.declared.reports.estimate.Estimate.{Estimate}
use Rattle.ct_grammar.specs.declared.fact.Fact.{Fact}
use Rattle.ct_grammar.specs.declared.fact.Fact.TheVariants.{Up, Crashed, Idle, Instance, Round, Phase as InPhase}
use Rattle.ct_grammar.specs.declared.fact.Fact.TheVariants.{Received, Decided, Delivered, Table, Refuses}
use Rattle.ct_grammar.specs.declared.fact.Fact.TheVariants.{May, Waiting, Waits, Heard, Acked, Estimate as Estimated}
use Rattle.ct_play.specs.Facts.{acked_at, heard_at, holds, is_as_said, is_estimate, place_of}
use Rattle.ct_play.specs.Picking.{waiting_at}
use Rattle.ct_play.specs.Played.{Played}
use Rattle.ct_laws.specs.Expectations.{HasEstimate, IsSetOf, IsSo}
use Rattle.ct_laws.specs.Facts.{HasGot, Stands}
use Rattle.ct_laws.proofs.Expecting.Acts.{for_refused, may_so, refused_for, so_may, so_waits, waits_so}
use Rattle.ct_laws.proofs.Expecting.Values.{decided_so, estimate_so, named_so, none_expected, phase_same, same_phase}
use Rattle.ct_laws.proofs.Expecting.Values.{so_decided, so_estimate, so_named}
use Rattle.ct_laws.proofs.MemberFacts.{got_heard, is_there, of_group}

-- ---- sets

halves : (a b : Bool) (m n : ℕ) → (if a then 1 else 0) + 2 * m ≡ (if b then 1 else 0) + 2 * n → (a ≡ b) × (m ≡ n)
halves true true m n h = (refl, omega (arith, h))
halves false false m n h = (refl, omega (arith, h))
halves _ _ m n h = absurd (omega (arith, h))

same_tests : {A : Type 0} (f g : A → Bool) (xs : List A) → number_of (map f xs) ≡ number_of (map g xs) → (x : A) → IsIn x xs → f x ≡ g x
same_tests f g [] h x at = absurd at
same_tests f g (y ∷ ys) h x at =
    let is = halves (f y) (g y) (number_of (map f ys)) (number_of (map g ys)) h in
    elim at [ inl e ↦ ap f e ∙ is.0 ∙ sym (ap g e) | inr later ↦ same_tests f g ys is.1 x later ]

tested : {A : Type 0} (f g : A → Bool) (xs : List A) → ((x : A) → IsIn x xs → f x ≡ g x) → number_of (map f xs) ≡ number_of (map g xs)
tested f g [] h = refl
tested f g (y ∷ ys) h = rw (h y (inl refl), tested f g ys (λ x at. h x (inr at))) refl

same_test : (x y : Bool) → (x ≡ true → y ≡ true) → (y ≡ true → x ≡ true) → x ≡ y
same_test x y to from = grind arith

-- two sets of the members of which this is so have the same bits
module _ (P : ℕ → Type 0) (a b : List ℕ) (of : IsSetOf P a) where
  same_so : bits_of a ≡ bits_of b → IsSetOf P b
  same_so h q one =
      let same = same_tests (has_member a) (has_member b) everyone h q one in (
        λ so. in-has_member b q (sym same ∙ has_member-in a q ((of q one).0 so)),
        λ at. (of q one).1 (in-has_member a q (same ∙ has_member-in b q at)),
      )

  so_same : IsSetOf P b → bits_of a ≡ bits_of b
  so_same so =
      tested (has_member a) (has_member b) everyone (λ q one. same_test (has_member a q) (has_member b q)
      (λ h. has_member-in b q ((so q one).0 ((of q one).1 (in-has_member a q h))))
      (λ h. has_member-in a q ((of q one).0 ((so q one).1 (in-has_member b q h)))))

-- those of a member's open instance, where it has one
module _ (w : Rehearsal) (p : ℕ) (f : Standing → List ℕ) (P : Standing → ℕ → Type 0) (of : (c : Standing) → IsSetOf (P c) (f c)) where
  stood : (o : Option Standing) → (member_of w p).current ≡ o → (q : ℕ) → IsIn q everyone → IsIn q (unwrap_or (option_map f o) []) →
      Stands w p (λ c. P c q)
  stood None is q one at = absurd at
  stood (Some c) is q one at = (c, is, (of c q one).1 at)

  open_set : IsSetOf (λ q. Stands w p (λ c. P c q)) (unwrap_or (option_map f (member_of w p).current) [])
  open_set q one = (
    λ so. subst (λ o. IsIn q (unwrap_or (option_map f o) [])) (sym so.1) ((of so.0 q one).0 so.2),
    stood (member_of w p).current refl q one,
  )

-- ---- what was heard, and who acked

pub own_member : (q : ℕ) (list : List (HeardOf Value)) (e : HeardOf Value) → find (λ x. x.member == q) list ≡ Some e → e.member ≡ q
own_member q list e is = eqb-true e.member q (found-find (λ (x : HeardOf Value). x.member == q) e list is).1

module _ (w : Rehearsal) (p : ℕ) (c : Standing) where
  heard_set : IsSetOf (HasEstimate w p c.round) (heard (own_ballots (member_of w p) c))
  heard_set q one =
      let t = own_ballots (member_of w p) c in (
        λ h.
            let e = got_heard (member_of w p).got (member_of w p).last c.round q h.0 h.1 one h.2 in
            subst (λ x. IsIn x (heard t)) (own_member q t.estimates e.0 e.1)
            (IsIn-map (λ (x : HeardOf Value). x.member) e.0 t.estimates (estimate_from-in t q e.0 e.1)),
        λ h.
            let f = heard-in t q h in
            let e = f.estimate in
            let got = estimates-got (member_of w p).got (member_of w p).last c.round e f.is_in in
            (e.value, e.ts, subst (λ x. HasGot w p (Est (member_of w p).last c.round x e.value e.ts)) f.member got),
      )

  acked_set : IsSetOf (λ q. HasGot w p (Ack (member_of w p).last c.round q)) (own_ballots (member_of w p) c).acked
  acked_set q one =
      let m = member_of w p in (
        λ h.
            let passes = list_any-found (is_ack m.last c.round q) (Ack m.last c.round q) m.got h (grind (arith, nat_tests)) in
            subst (λ l. IsIn q l) (sym (acked-of m.got m.last c.round)) (IsIn-filter (has_ack m.got m.last c.round) q everyone passes one),
        λ h. acker-got m.got m.last c.round q (subst (λ l. IsIn q l) (acked-of m.got m.last c.round) h),
      )

-- ---- what stands in a place

abbrev pub place : Standing → ℕ × Phase
place c = (c.round, c.phase)

round_by : (w : Rehearsal) (p r : ℕ) (o : Option Standing) → (member_of w p).current ≡ o →
    option_map_or (λ place. place.0 == r) (option_map place o) false ≡ true → Stands w p (λ c. c.round ≡ r)
round_by w p r None is h = absurd (cc h)
round_by w p r (Some c) is h = (c, is, eqb-true c.round r h)

phase_by : (w : Rehearsal) (p : ℕ) (f : Phase) (o : Option Standing) → (member_of w p).current ≡ o →
    option_map_or (λ place. phases.eq place.1 f) (option_map place o) false ≡ true → Stands w p (λ c. c.phase ≡ f)
phase_by w p f None is h = absurd (cc h)
phase_by w p f (Some c) is h = (c, is, same_phase c.phase f h)

idle_by : {A : Type 0} (o : Option A) → is_none o ≡ true → o ≡ None
idle_by None h = refl
idle_by (Some x) h = absurd (cc h)

-- ---- a member of the group

module _ (w : Rehearsal) (p : ℕ) (member : IsMember w.setting.members p) where
  line_is : waiting_at w p ≡ line_of w p
  unfolding waiting_at
  line_is = ap (λ b. unwrap_or (if b then Some (line_of w p) else None) []) (is_there w.setting.members p member)

  pub place_is : place_of w p ≡ option_map place (member_of w p).current
  place_is = of_group w p (option_map place (member_of w p).current) member

  heard_there : IsSetOf (λ q. Stands w p (λ c. HasEstimate w p c.round q)) (heard_at w p)
  heard_there =
      subst (λ o. IsSetOf (λ q. Stands w p (λ c. HasEstimate w p c.round q)) (unwrap_or o []))
      (sym (of_group w p (all_heard_by (member_of w p)) member))
      (open_set w p (λ c. heard (own_ballots (member_of w p) c)) (λ c. HasEstimate w p c.round) (heard_set w p))

  acked_there : IsSetOf (λ q. Stands w p (λ c. HasGot w p (Ack (member_of w p).last c.round q))) (acked_at w p)
  acked_there =
      subst (λ o. IsSetOf (λ q. Stands w p (λ c. HasGot w p (Ack (member_of w p).last c.round q))) (unwrap_or o []))
      (sym (of_group w p (acked_by (member_of w p)) member))
      (open_set w p (λ c. (own_ballots (member_of w p) c).acked) (λ c q. HasGot w p (Ack (member_of w p).last c.round q)) (acked_set w p))

abbrev held : Standing → Value × ℕ
held c = (c.estimate, c.ts)

estimate_is : (w : Rehearsal) (p : ℕ) → IsMember w.setting.members p →
    if_member w p (estimate_by (member_of w p)) ≡ option_map held (member_of w p).current
estimate_is w p member = of_group w p (estimate_by (member_of w p)) member

estimated_by : (s : Played) (p : ℕ) (estimate : Option Estimate) (o : Option Standing) → (member_of s.rehearsal p).current ≡ o →
    is_estimate (option_map held o) estimate ≡ true → IsSo s p (Estimated estimate)
estimated_by s p estimate None is h = inl (is, none_expected estimate h)
estimated_by s p estimate (Some c) is h = inr (c, is, estimate_so (held c) estimate h)

by_estimated : (s : Played) (p : ℕ) (estimate : Option Estimate) → IsSo s p (Estimated estimate) →
    is_estimate (option_map held (member_of s.rehearsal p).current) estimate ≡ true
by_estimated s p estimate (inl h) = ap (λ o. is_estimate (option_map held o) estimate) h.0 ∙ ap (is_estimate None) h.1
by_estimated s p estimate (inr h) =
    ap (λ o. is_estimate (option_map held o) estimate) h.1 ∙ so_estimate (held h.0) estimate h.2

-- ---- what is expected is so

crashed_not : (crashed : Bool) → not crashed ≡ true → crashed ≡ false
crashed_not crashed h = grind arith

module _ (s : Played) (p : ℕ) (member : IsMember s.rehearsal.setting.members p) where
  said_so : (fact : Fact) → is_as_said s p fact ≡ true → IsSo s p fact
  said_so Up h = crashed_not (is_crashed (state_of s.rehearsal) p) h
  said_so Crashed h = h
  said_so Idle h = idle_by (member_of s.rehearsal p).current h
  said_so (Instance k) h = eqb-true (member_of s.rehearsal p).last k h
  said_so (Round r) h =
      round_by s.rehearsal p r (member_of s.rehearsal p).current refl
      (sym (ap (λ o. option_map_or (λ place. place.0 == r) o false) (place_is s.rehearsal p member)) ∙ h)
  said_so (InPhase f) h =
      phase_by s.rehearsal p f (member_of s.rehearsal p).current refl
      (sym (ap (λ o. option_map_or (λ place. phases.eq place.1 f) o false) (place_is s.rehearsal p member)) ∙ h)
  said_so (Received names) h = named_so names (received_by (state_of s.rehearsal) p) h
  said_so (Decided decisions) h = decided_so (member_of s.rehearsal p).got decisions h
  said_so (Delivered names) h = named_so names (delivered (member_of s.rehearsal p)) h
  said_so (Table values) h = sym ((bytes_eq-Decides (table (delivered (member_of s.rehearsal p))) values).0 h)
  said_so (Refuses act reason) h = refused_for s p act (line_is s.rehearsal p member) reason h
  said_so (May act) h = may_so s p act (line_is s.rehearsal p member) h
  said_so (Waiting k) h =
      sym (ap length (line_is s.rehearsal p member)) ∙ eqb-true (length (waiting_at s.rehearsal p)) k h
  said_so (Waits pick) h = waits_so s.rehearsal p (line_is s.rehearsal p member) pick h
  said_so (Heard set) h =
      same_so _ (heard_at s.rehearsal p) set (heard_there s.rehearsal p member)
      (eqb-true (bits_of (heard_at s.rehearsal p)) (bits_of set) h)
  said_so (Acked set) h =
      same_so _ (acked_at s.rehearsal p) set (acked_there s.rehearsal p member)
      (eqb-true (bits_of (acked_at s.rehearsal p)) (bits_of set) h)
  said_so (Estimated estimate) h =
      estimated_by s p estimate (member_of s.rehearsal p).current refl
      (sym (ap (λ o. is_estimate o estimate) (estimate_is s.rehearsal p member)) ∙ h)

  so_said : (fact : Fact) → IsSo s p fact → is_as_said s p fact ≡ true
  so_said Up h = ap not h
  so_said Crashed h = h
  so_said Idle h = ap is_none h
  so_said (Instance k) h = eq-eqb (member_of s.rehearsal p).last k h
  so_said (Round r) h =
      ap (λ o. option_map_or (λ place. place.0 == r) o false) (place_is s.rehearsal p member)
      ∙ ap (λ o. option_map_or (λ place. place.0 == r) (option_map place o) false) h.1 ∙ eq-eqb h.0.round r h.2
  so_said (InPhase f) h =
      ap (λ o. option_map_or (λ place. phases.eq place.1 f) o false) (place_is s.rehearsal p member)
      ∙ ap (λ o. option_map_or (λ place. phases.eq place.1 f) (option_map place o) false) h.1
      ∙ ap (λ g. phases.eq g f) h.2 ∙ phase_same f
  so_said (Received names) h = so_named names (received_by (state_of s.rehearsal) p) h
  so_said (Decided decisions) h = so_decided (member_of s.rehearsal p).got decisions h
  so_said (Delivered names) h = so_named names (delivered (member_of s.rehearsal p)) h
  so_said (Table values) h = (bytes_eq-Decides (table (delivered (member_of s.rehearsal p))) values).1 (sym h)
  so_said (Refuses act reason) h = for_refused s p act (line_is s.rehearsal p member) reason h
  so_said (May act) h = so_may s p act (line_is s.rehearsal p member) h
  so_said (Waiting k) h = eq-eqb (length (waiting_at s.rehearsal p)) k (ap length (line_is s.rehearsal p member) ∙ h)
  so_said (Waits pick) h = so_waits s.rehearsal p (line_is s.rehearsal p member) pick h
  so_said (Heard set) h =
      eq-eqb (bits_of (heard_at s.rehearsal p)) (bits_of set)
      (so_same _ (heard_at s.rehearsal p) set (heard_there s.rehearsal p member) h)
  so_said (Acked set) h =
      eq-eqb (bits_of (acked_at s.rehearsal p)) (bits_of set)
      (so_same _ (acked_at s.rehearsal p) set (acked_there s.rehearsal p member) h)
  so_said (Estimated estimate) h =
      ap (λ o. is_estimate o estimate) (estimate_is s.rehearsal p member) ∙ by_estimated s p estimate h

-- ---- facts

pub is_of_group : (n p : ℕ) → is_member n p ≡ true → IsMember n p
is_of_group n p h = grind (arith, nat_tests)

pub of_group_so : (b c : Bool) → (if b then c else false) ≡ true → (b ≡ true) × (c ≡ true)
of_group_so true c h = (refl, h)
of_group_so false c h = absurd (cc h)

pub holds_so : (s : Played) (p : ℕ) (fact : Fact) → holds s p fact ≡ true →
    IsMember s.rehearsal.setting.members p × IsSo s p fact
unfolding holds
holds_so s p fact h =
    let f = of_group_so (is_member s.rehearsal.setting.members p) (is_as_said s p fact) h in
    let member = is_of_group s.rehearsal.setting.members p f.0 in
    (member, said_so s p member fact f.1)

pub so_holds : (s : Played) (p : ℕ) (fact : Fact) → IsMember s.rehearsal.setting.members p → IsSo s p fact → holds s p fact ≡ true
unfolding holds
so_holds s p fact member h =
    ap (λ b. if b then is_as_said s p fact else false) (is_there s.rehearsal.setting.members p member)
    ∙ so_said s p member fact h
