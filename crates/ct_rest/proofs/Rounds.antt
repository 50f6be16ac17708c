-- At rest no member that is up has an instance open.
use Rattle.std.proofs.lemmas.Bool.Decides.{nat_tests}
use Rattle.std.proofs.Common.{◌≡◌, ℕ, zero, suc, ◌≤◌, ◌<◌, true, false, List, Some, refl, sym, ap, ◌∙◌, subst, inl, inr, ◌⊎◌, arith}
use Rattle.std.proofs.lemmas.Bool.{cases_lt}
use Rattle.ct_names.specs.Group.{coordinator, everyone, members, is_majority, IsMember}
use Rattle.ct_names.specs.Membership.{IsIn}
use Rattle.ct_names.specs.Value.{Value}
use Rattle.ct_names.proofs.Groups.{once-members, counting-range}
use Rattle.ct_names.proofs.Lists.{IsIn-filter_from, IsIn-filter_passes, IsWithoutRepeats-filter, not-true}
use Rattle.ct_model.specs.declared.step.Step.{Step}
use Rattle.ct_model.specs.AtValue.{Standing}
use Rattle.ct_model.specs.Setting.{Setting}
use Rattle.ct_model.specs.declared.wire.Wire.TheVariants.{Est, Prop, Ack, Nack}
use Rattle.ct_model.specs.State.{State, member}
use Rattle.ct_model.specs.Received.{Ballots, ballots, heard}
use Rattle.ct_model.specs.Phases.{is_rest, is_gather, is_wait, is_tally}
use Rattle.ct_model.specs.Senders.{senders}
use Rattle.ct_model.proofs.Basics.Groups.{coordinator_is}
use Rattle.ct_model.proofs.Basics.Options.{some-same}
use Rattle.ct_model.proofs.Basics.Tests
use Rattle.ct_model.proofs.Consensus.Facts.{Holds, HasChosen}
use Rattle.ct_model.proofs.Consensus.Readings
use Rattle.ct_model.proofs.Consensus.Runs.{Holds-run}
use Rattle.ct_model.proofs.Record.Senders.{IsPosted}
use Rattle.ct_rest.specs.Rest.{IsUp, IsAtRest}
use Rattle.ct_rest.proofs.Ballots
use Rattle.ct_rest.proofs.Ballots.{majority_of_more}
use Rattle.ct_rest.proofs.Blocked
use Rattle.ct_rest.proofs.Duties.{DoesDuty, HasReplied}
use Rattle.ct_rest.proofs.Levels.{came}
use Rattle.ct_rest.proofs.Posts.{posts-run}

in-group : (n q : ℕ) → IsIn q (members n) → IsMember n q
unfolding members
in-group n q h = let r = counting-range 1 n q h in (r.0, omega (arith, r.1))

-- a set that has all that are up is a majority
manned : (s : Setting) (steps : List Step) (g : State) → IsAtRest s steps g → (set : List ℕ) → ((q : ℕ) → IsUp s g q → IsIn q set) →
    is_majority s.members set ≡ true
manned s steps g rest set all =
    let most = rest.majority in
    grind (arith, majority_of_more, IsWithoutRepeats-filter, once-members, in-group, IsIn-filter_from, IsIn-filter_passes, not-true)

-- each that is up has the instance open
abbrev pub AreOpen : Setting → State → ℕ → Type 0
AreOpen s g k = (q : ℕ) → IsUp s g q → (d : Standing) × ((member g q).current ≡ Some d) × ((member g q).last ≡ k)

module _ (s : Setting) (steps : List Step) (g : State) (rest : IsAtRest s steps g) (k : ℕ) (open_all : AreOpen s g k) where
  holds : Holds s g
  holds = Holds-run s steps g rest.runs

  -- where q stands
  abbrev at : (q : ℕ) → IsUp s g q → Standing
  at q isq = (open_all q isq).0

  duty : (q : ℕ) (isq : IsUp s g q) → DoesDuty (IsPosted (senders s steps) g.sent q) s.members q k (at q isq)
  duty q isq =
      let f = open_all q isq in
      rw f.2 at ((posts-run s steps g rest.runs).work q isq.member f.0 f.1).0

  counted : (q : ℕ) → IsUp s g q → IsIn q everyone
  counted q isq = Ballots.countable s.members q rest.few isq.member

  -- who waits got no proposal
  unproposed : (q : ℕ) (isq : IsUp s g q) (v : Value) → is_wait (at q isq).phase ≡ true →
      IsIn (Prop k (at q isq).round v) (member g q).got → ⊥
  unproposed q isq v waits came = grind (arith, open_all q isq, Blocked.no_proposal, rest.blocked, Ballots.proposal-came)

  awake : (q : ℕ) (isq : IsUp s g q) → is_rest (at q isq).phase ≡ false
  awake q isq = let f = open_all q isq in Blocked.no_rest s g q isq (rest.blocked q isq) f.0 f.1

  started : (q : ℕ) (isq : IsUp s g q) → 1 ≤ (at q isq).round
  started q isq = let f = open_all q isq in (holds.sound q isq.member f.0 f.1).started (awake q isq)

  same_standing : (p q : ℕ) (isp : IsUp s g p) (isq : IsUp s g q) → p ≡ q → at p isp ≡ at q isq
  same_standing p q isp isq e =
      some-same (at p isp) (at q isq) (sym (open_all p isp).1 ∙ ap (λ z. (member g z).current) e ∙ (open_all q isq).1)

  -- who chose in a round that it coordinates has sent all that are up its proposal
  proposal_at : (co : ℕ) (isc : IsUp s g co) (r : ℕ) → 1 ≤ r → coordinator s.members r ≡ co → HasChosen r (at co isc) → (q : ℕ) →
      IsUp s g q → (v : Value) × IsIn (Prop k r v) (member g q).got
  proposal_at co isc r some leads past q isq =
      let e = (duty co isc).proposals r some leads past in
      (e.0, came s steps g rest co q (Prop k r e.0) isc isq (e.1 q isq.member))

  -- nobody coordinates a round that each has entered
  module _ (co : ℕ) (isc : IsUp s g co) (leads : coordinator s.members (at co isc).round ≡ co)
      (least : (q : ℕ) (isq : IsUp s g q) → (at co isc).round ≤ (at q isq).round) where
    abbrev r : ℕ
    r = (at co isc).round

    abbrev got : Ballots Value
    got = ballots (member g co).got k r

    gathers_not : is_gather (at co isc).phase ≡ true → ⊥
    gathers_not gathers =
        let f = open_all co isc in
        let hears : (q : ℕ) → IsUp s g q → IsIn q (heard got) = λ q isq.
        let e = (duty q isq).estimates r (started co isc) (least q isq) in
        Ballots.estimate-came (member g co).got k r q e.1 e.0 (counted q isq)
        (came s steps g rest q co (Est k r q e.0 e.1) isq isc (rw leads at e.2)) in
        let best = Ballots.choice got co (Readings.heard-once (member g co).got k r) (hears co isc) in
        let no_choice = Blocked.no_choice s g co isc (rest.blocked co isc) f.0 f.1 gathers in
        (rw f.2 at no_choice) (manned s steps g rest (heard got) hears) best.from best.estimate best.is best.largest

    waits_not : is_wait (at co isc).phase ≡ true → ⊥
    waits_not waits = grind (arith, nat_tests, proposal_at, started, unproposed)

    module _ (tallies : is_tally (at co isc).phase ≡ true) where
      -- who is in the round replied, as the proposal came
      replied : (q : ℕ) (isq : IsUp s g q) → HasReplied r (at q isq)
      replied q isq = elim (cases_lt r (at q isq).round) [
        | inl lt ↦ inl lt
        | inr le ↦
            let same : r ≡ (at q isq).round = omega (arith, least q isq) in
            inr (
              same,
              Tests.not_true _ (λ gathers.
                  let f = open_all q isq in
                  let own = (holds.sound q isq.member f.0 f.1).gathers gathers in
                  let it : q ≡ co = sym own ∙ ap (λ z. coordinator s.members z) (sym same) ∙ leads in
                  grind (arith, same_standing q co isq isc it)),
              Tests.not_true _ (λ waits.
                  let e = proposal_at co isc r (started co isc) leads (inr (refl, grind arith)) q isq in
                  unproposed q isq e.0 waits (subst (λ x. IsIn (Prop k x e.0) (member g q).got) same e.1)),
            )
      ]

      tallies_not : ⊥
      tallies_not =
          let f = open_all co isc in
          let hears : (q : ℕ) → IsUp s g q → IsIn q got.replied = λ q isq.
          Ballots.reply-came (member g co).got k r q (counted q isq) (elim ((duty q isq).replies r (started co isc) (replied q isq)) [
            | inl ack ↦ inl (came s steps g rest q co (Ack k r q) isq isc (rw leads at ack))
            | inr nack ↦ inr (came s steps g rest q co (Nack k r q) isq isc (rw leads at nack))
          ]) in
          let few = Blocked.few_replies s g co isc (rest.blocked co isc) f.0 f.1 tallies in
          (rw f.2 at few) (manned s steps g rest got.replied hears)

    leads_not : ⊥
    leads_not = grind (arith, gathers_not, waits_not, tallies_not, awake co isc)

  -- nobody is in the least round
  module _ (p : ℕ) (isp : IsUp s g p) (least : (q : ℕ) (isq : IsUp s g q) → (at p isp).round ≤ (at q isq).round) where
    abbrev co : ℕ
    co = coordinator s.members (at p isp).round

    -- p waits for the coordinator, or is it
    waits_or_leads : (is_wait (at p isp).phase ≡ true) ⊎ (co ≡ p)
    waits_or_leads = grind (arith, awake p isp, holds.sound p isp.member (open_all p isp).0 (open_all p isp).1)

    co_up : IsUp s g co
    co_up = grind (arith, nat_tests, coordinator_is, waits_or_leads)

    least_not : ⊥
    least_not = elim (cases_lt (at p isp).round (at co co_up).round) [
      | inl ahead ↦ elim waits_or_leads [
        | inl waits ↦ (
            let e = proposal_at co co_up (at p isp).round (started p isp) refl (inl ahead) p isp in unproposed p isp e.0 waits e.1)
        | inr own ↦ (let e = ap (λ (c : Standing). c.round) (same_standing co p co_up isp own) in omega arith)
      ]
      | inr le ↦
          let same : (at co co_up).round ≡ (at p isp).round = omega (arith, least co co_up) in
          leads_not co co_up (ap (λ z. coordinator s.members z) same) (λ q isq. rw same (least q isq))
    ]

  stuck : (bound p : ℕ) (isp : IsUp s g p) → (at p isp).round < bound → ⊥
  stuck zero p isp lt = omega arith
  stuck (suc bound) p isp lt = least_not p isp (λ q isq. elim (cases_lt (at q isq).round (at p isp).round) [
    | inl less ↦ absurd (stuck bound q isq (omega arith))
    | inr le ↦ le
  ])

  pub open_not : (p : ℕ) → IsUp s g p → ⊥
  open_not p isp = stuck (suc (at p isp).round) p isp (omega arith)
