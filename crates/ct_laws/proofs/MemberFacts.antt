-- The facts of a member are true.
use Rattle.std.proofs.Common.{◌≡◌, inl, inr, ◌≤◌, ◌==◌, ℕ, zero, suc, Bool, true, false, List, refl, ap, sym, ◌∙◌, subst, arith}
use Rattle.std.proofs.Common.{length, filter, filter_map, eqb-true}
use Rattle.std.proofs.lemmas.Bool.Decides.{nat_tests}
use Rattle.std.proofs.Math.Nat.{eq-or-lt_of_le}
use Rattle.std.specs.Option.{option_map_or}
use Rattle.std.specs.Prelude.{if◌then◌else◌, is_some, Option, Some, None, option_and_then, option_map, unwrap_or}
use Rattle.ct_names.specs.Group.{IsMember, coordinator, everyone, is_member}
use Rattle.ct_names.specs.Membership.{IsIn}
use Rattle.ct_names.specs.Value.{Value}
use Rattle.ct_names.specs.declared.refusal.Refusal.{Refusal}
use Rattle.ct_names.proofs.Groups.{once-everyone}
use Rattle.ct_names.proofs.Lists.{IsIn-append_cases, IsIn-append_left, IsIn-append_right, IsIn-filter, IsIn-filter_map, IsIn-filter_passes}
use Rattle.ct_names.proofs.Lists.{IsWithoutRepeats-filter, found-find, found-list_any, list_any-found}
use Rattle.ct_model.specs.AtValue.{Standing, Wire}
use Rattle.ct_model.specs.Next.{own_ballots}
use Rattle.ct_model.specs.Received.{Heard as HeardOf, ballots, estimate_from, estimate_of as estimate_in, has_ack, has_reply}
use Rattle.ct_model.specs.Received.{heard_from, is_ack, is_reply}
use Rattle.ct_model.specs.Rehearsal.{Rehearsal}
use Rattle.ct_model.specs.declared.phase.Phase.{Phase}
use Rattle.ct_model.specs.declared.wire.Wire.TheVariants.{Ack, Est, Nack}
use Rattle.ct_model.proofs.Basics.Options.{some-same}
use Rattle.ct_model.proofs.Consensus.Readings.{acked-of, acker-got, estimates-got}
use Rattle.ct_world.specs.Standing.{heard_by}
use Rattle.ct_world.specs.World.{if_member, member_of}
use Rattle.ct_text.specs.Standing.{coordinator_of, instance_of, round_of}
use Rattle.ct_show.specs.Details.{size_of}
use Rattle.ct_show.specs.Facts.{first_heard, heard_of, member_facts, part, standing}
use Rattle.ct_laws.specs.Facts.{AreHeard, AreMany, AreTrue, HasGot, HasReply, Tells}
use Rattle.ct_laws.proofs.Finding.{find_there}

-- ---- what is read of a member of the group

pub is_there : (n p : ℕ) → IsMember n p → is_member n p ≡ true
is_there n p h = grind (arith, nat_tests)

pub of_group : {A : Type 0} (w : Rehearsal) (p : ℕ) (x : Option A) → IsMember w.setting.members p → if_member w p x ≡ x
of_group w p x h = ap (λ b. if b then x else None) (is_there w.setting.members p h)

-- ---- estimates that it got

pub heard_got : (w : Rehearsal) (p q : ℕ) (c : Standing) (e : HeardOf Value) → estimate_from (own_ballots (member_of w p) c) q ≡ Some e →
    HasGot w p (Est (member_of w p).last c.round q e.value e.ts)
heard_got w p q c e is =
    let m = member_of w p in
    let found = found-find (λ (x : HeardOf Value). x.member == q) e (own_ballots m c).estimates is in
    let same : e.member ≡ q = eqb-true e.member q found.1 in
    subst (λ n. IsIn (Est m.last c.round n e.value e.ts) m.got) same (estimates-got m.got m.last c.round e found.0)

pub got_heard : (got : List Wire) (k r q : ℕ) (v : Value) (ts : ℕ) → IsIn q everyone → IsIn (Est k r q v ts) got →
    (e : HeardOf Value) × (estimate_from (ballots got k r) q ≡ Some e)
unfolding ballots
got_heard got k r q v ts there h =
    let mine = λ (x : HeardOf Value). x.member == q in
    let e : HeardOf Value = record { member = q; value = v; ts = ts } in
    let first = find_there mine e (filter_map (estimate_in k r) got)
    (IsIn-filter_map (estimate_in k r) (Est k r q v ts) e got (grind (arith, nat_tests)) h) (grind (arith, nat_tests)) in
    let own = (found-find mine first.0 (filter_map (estimate_in k r) got) first.1).1 in
    find_there mine first.0 (filter_map (heard_from got k r) everyone)
    (IsIn-filter_map (heard_from got k r) q first.0 everyone first.1 there) own

-- ---- those that are told

module _ (w : Rehearsal) (p : ℕ) where
  abbrev heard : ℕ → Option (Value × ℕ)
  heard q = if_member w p (heard_by (member_of w p) q)

  one_heard : (i q : ℕ) (e : Value × ℕ) (o : Option (Value × ℕ)) → IsIn (q, e) (heard_of i o) → (q ≡ i) × (o ≡ Some e)
  one_heard i q e None h = absurd h
  one_heard i q e (Some x) (inl same) = (ap (λ y. y.0) same, ap (λ y. Some y.1) (sym same))
  one_heard i q e (Some x) (inr never) = absurd never

  from_heard : (n q : ℕ) (e : Value × ℕ) → IsIn (q, e) (first_heard w p n) → heard q ≡ Some e
  from_heard zero q e h = absurd h
  from_heard (suc i) q e h = elim (IsIn-append_cases (q, e) (first_heard w p i) (heard_of (suc i) (heard (suc i))) h) [
    | inl before ↦ from_heard i q e before
    | inr here ↦ let one = one_heard (suc i) q e (heard (suc i)) here in subst (λ j. heard j ≡ Some e) (sym one.0) one.1
  ]

  in_heard : (n q : ℕ) (e : Value × ℕ) → 1 ≤ q → q ≤ n → heard q ≡ Some e → IsIn (q, e) (first_heard w p n)
  in_heard zero q e low high is = absurd (omega (arith, low, high))
  in_heard (suc i) q e low high is = elim (eq-or-lt_of_le high) [
    | inl same ↦
        let here : IsIn (q, e) (heard_of q (heard q)) = subst (λ o. IsIn (q, e) (heard_of q o)) (sym is) (inl refl) in
        IsIn-append_right (q, e) (first_heard w p i) (heard_of (suc i) (heard (suc i)))
        (subst (λ j. IsIn (q, e) (heard_of j (heard j))) same here)
    | inr less ↦
        IsIn-append_left (q, e) (first_heard w p i) (heard_of (suc i) (heard (suc i))) (in_heard i q e low (omega (arith, less)) is)
  ]

-- ---- replies

many : (test : ℕ → Bool) (P : ℕ → Type 0) → ((q : ℕ) → P q → test q ≡ true) → ((q : ℕ) → IsIn q (filter test everyone) → P q) →
    AreMany P (length (filter test everyone))
many test P so only = record {
  set = filter test everyone;
  once = IsWithoutRepeats-filter test everyone once-everyone;
  all = λ q one h. IsIn-filter test q everyone (so q h) one;
  only = only;
  size = refl;
}

acks_many : (got : List Wire) (k r : ℕ) → AreMany (λ q. IsIn (Ack k r q) got) (length (ballots got k r).acked)
acks_many got k r =
    subst (AreMany (λ q. IsIn (Ack k r q) got)) (ap length (sym (acked-of got k r)))
    (many (has_ack got k r) (λ q. IsIn (Ack k r q) got)
    (λ q h. list_any-found (is_ack k r q) (Ack k r q) got h (grind (arith, nat_tests))) (λ q h. acker-got got k r q h))

reply_got : (w : Rehearsal) (p k r q : ℕ) (wire : Wire) → IsIn wire (member_of w p).got → is_reply k r q wire ≡ true → HasReply w p k r q
reply_got w p k r q wire h is = grind (arith, nat_tests)

got_reply : (w : Rehearsal) (p k r q : ℕ) → HasReply w p k r q → has_reply (member_of w p).got k r q ≡ true
got_reply w p k r q (inl h) = list_any-found (is_reply k r q) (Ack k r q) (member_of w p).got h (grind (arith, nat_tests))
got_reply w p k r q (inr h) = list_any-found (is_reply k r q) (Nack k r q) (member_of w p).got h (grind (arith, nat_tests))

replies_many : (w : Rehearsal) (p k r : ℕ) → AreMany (HasReply w p k r) (length (ballots (member_of w p).got k r).replied)
unfolding ballots
replies_many w p k r =
    let got = (member_of w p).got in
    many (has_reply got k r) (HasReply w p k r) (got_reply w p k r)
    (λ q h.
    let f = found-list_any (is_reply k r q) got (IsIn-filter_passes (has_reply got k r) q everyone h) in
    reply_got w p k r q f.item f.is_in f.passes)

-- ---- where it stands

module _ (w : Rehearsal) (p k : ℕ) (refusal : Refusal) (there : IsMember w.setting.members p) where
  of_current : {A : Type 0} (f : Standing → A) (o : Option Standing) → (member_of w p).current ≡ o →
      if_member w p (option_map f (member_of w p).current) ≡ option_map f o
  of_current f o is = of_group w p (option_map f (member_of w p).current) there ∙ ap (option_map f) is

  module _ (c : Standing) (is : (member_of w p).current ≡ Some c) where
    leads : coordinator_of w p ≡ coordinator w.setting.members c.round
    unfolding coordinator_of round_of
    leads =
        ap (λ o. coordinator w.setting.members (option_map_or (λ (r : ℕ × Phase). r.0) o 0))
        (of_current (λ c. (c.round, c.phase)) (Some c) is)

    -- what is heard of q is the estimate among the ballots
    heard_is : (q : ℕ) → heard w p q ≡ option_map (λ e. (e.value, e.ts)) (estimate_from (own_ballots (member_of w p) c) q)
    heard_is q =
        of_group w p (heard_by (member_of w p) q) there
        ∙ ap (λ o. option_and_then (λ c. option_map (λ e. (e.value, e.ts)) (estimate_from (own_ballots (member_of w p) c) q)) o) is

    one_got : (q : ℕ) (v : Value) (ts : ℕ) (o : Option (HeardOf Value)) → estimate_from (own_ballots (member_of w p) c) q ≡ o →
        option_map {U = Value × ℕ} (λ e. (e.value, e.ts)) o ≡ Some (v, ts) → HasGot w p (Est (member_of w p).last c.round q v ts)
    one_got q v ts None from h = absurd (cc h)
    one_got q v ts (Some e) from h =
        subst (λ x. HasGot w p (Est (member_of w p).last c.round q x.0 x.1)) (some-same (e.value, e.ts) (v, ts) h)
        (heard_got w p q c e from)

    are_heard : AreHeard w p c.round (first_heard w p w.setting.members)
    are_heard = record {
      got = λ q v ts h.
          one_got q v ts (estimate_from (own_ballots (member_of w p) c) q) refl
          (sym (heard_is q) ∙ from_heard w p w.setting.members q (v, ts) h);
      each = λ q v ts member one h.
          let m = member_of w p in
          let e = got_heard m.got m.last c.round q v ts one h in
          let told : heard w p q ≡ Some (e.0.value, e.0.ts) =
          heard_is q ∙ ap (option_map (λ (x : HeardOf Value). (x.value, x.ts))) e.1 in
          ((e.0.value, e.0.ts), in_heard w p w.setting.members q (e.0.value, e.0.ts) member.0 member.1 told);
    }

    open_true : AreTrue w p k refusal (part w p (Some (c.round, c.phase)))
    unfolding size_of
    open_true =
        let m = member_of w p in
        let acks = subst (λ o. AreMany (λ q. HasGot w p (Ack m.last c.round q)) (size_of o))
        (sym (of_current (λ c. (own_ballots m c).acked) (Some c) is)) (acks_many m.got m.last c.round) in
        let replies = subst (λ o. AreMany (HasReply w p m.last c.round) (size_of o))
        (sym (of_current (λ c. (own_ballots m c).replied) (Some c) is)) (replies_many w p m.last c.round) in (
          (c, is, (refl, refl, leads)),
          ((c, is, of_current (λ c. (c.estimate, c.ts)) (Some c) is), ((c, is, are_heard), ((c, is, (acks, replies)), tt))),
        )

  part_true : (o : Option Standing) → (member_of w p).current ≡ o →
      AreTrue w p k refusal (part w p (option_map (λ c. (c.round, c.phase)) o))
  part_true None is = (is, tt)
  part_true (Some c) is = open_true c is

  began : instance_of w p ≡ (member_of w p).last
  unfolding instance_of
  began =
      let m = member_of w p in
      ap (λ b. (unwrap_or {T = ℕ × Bool} (if b then Some (m.last, is_some m.current) else None) (0, false)).0)
      (is_there w.setting.members p there)

  pub standing_true : AreTrue w p k refusal (standing w p)
  standing_true =
      let m = member_of w p in (
        began,
        subst (λ r. AreTrue w p k refusal (part w p r)) (sym (of_current (λ c. (c.round, c.phase)) m.current refl))
            (part_true m.current refl),
      )

  pub tells_member : Tells w p k refusal (standing w p) (member_facts w p)
  unfolding member_facts
  tells_member = record { is = refl; are = standing_true }
