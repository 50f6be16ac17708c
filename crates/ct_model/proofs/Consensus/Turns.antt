-- The five steps of a round keep the facts.
use Rattle.std.proofs.Common.{◌≡◌, ℕ, ◌+◌, ◌≤◌, ◌<◌, true, Some, refl, inl, inr, arith}
use Rattle.std.proofs.lemmas.Bool.Decides.{nat_tests}
use Rattle.ct_names.specs.Group.{coordinator, IsMember, is_majority}
use Rattle.ct_names.specs.Membership.{IsIn}
use Rattle.ct_names.specs.Value.{Value}
use Rattle.ct_names.proofs.Groups.{majority_of}
use Rattle.ct_model.specs.declared.moves.Move.{Move}
use Rattle.ct_model.specs.declared.moves.Move.TheVariants.{Enter, Choose, Adopt, Suspect, Conclude}
use Rattle.ct_model.specs.AtValue.{Wire, Standing, Turn}
use Rattle.ct_model.specs.Setting.{Setting}
use Rattle.ct_model.specs.declared.wire.Wire.TheVariants.{Est, Prop, Ack, Dec}
use Rattle.ct_model.specs.State.{State, Member, member, wires}
use Rattle.ct_model.specs.Received.{Heard, Ballots, heard, is_largest, has_ack, decided}
use Rattle.ct_model.specs.Phases.{is_gather, is_wait, is_tally, entered, chosen, adopted, suspected, concluded}
use Rattle.ct_model.specs.Next.{turn_at, own_ballots, turned, after}
use Rattle.ct_model.specs.Safe.{IsProposed, IsLocked}
use Rattle.ct_model.proofs.Consensus.Sent.{Sent, Carries, Sent-new}
use Rattle.ct_model.proofs.Consensus.Facts.{Reached, HasRound, HasTs, HasChosen, IsCarried, IsHeard, IsFounded, IsFoundedEst}
use Rattle.ct_model.proofs.Consensus.Facts.{IsFoundedProp, IsFoundedAck, IsSound, Holds}
use Rattle.ct_model.proofs.Consensus.Facts.Reached.{earlier, now}
use Rattle.ct_model.proofs.Consensus.Growth.{IsOnward, Grows, IsProposed-grows, IsCarried-grows, IsLocked-grows, IsMajority-more}
use Rattle.ct_model.proofs.Consensus.Growth.{acked-more}
use Rattle.ct_model.proofs.Consensus.Growth.Advance.{turns}
use Rattle.ct_model.proofs.Consensus.Obligations.{IsAllowed, IsTimely, grows}
use Rattle.ct_model.proofs.Consensus.Readings
use Rattle.ct_model.proofs.Basics.Options.{some-same}
use Rattle.ct_model.proofs.Record.Members.{member-same}
use Rattle.ct_model.proofs.Steps.Mail.{carried-if}
use Rattle.ct_model.proofs.Steps.Rows.{enter-is, choose-is, adopt-is, suspect-is, conclude-is}

-- who has its last instance open stands where it has reached
standing-reached : (m : Member) (P : Standing → Type 0) (c : Standing) → m.current ≡ Some c → Reached m m.last P → P c
standing-reached m P c is (earlier x) = absurd (omega arith)
standing-reached m P c is (now x at) = at c is

module _ (s : Setting) (g : State) (p : ℕ) (holds : Holds s g) (is : IsMember s.members p) (c : Standing)
    (open_at : (member g p).current ≡ Some c) where
  -- the open instance, the ballots of the round, the state after a turn
  abbrev k : ℕ
  k = (member g p).last

  abbrev got : Ballots Value
  got = own_ballots (member g p) c

  abbrev later_state : Turn → State
  later_state t = after s g p (turned (member g p) t)

  old : IsSound s g p k c
  old = holds.sound p is c open_at

  module _ (t : Turn) (onward : IsOnward c t.after) where
    abbrev h : State
    h = later_state t

    up : Grows s g h
    up = grows s g p (turned (member g p) t) holds is (turns refl c t.after open_at refl onward)

    -- what is kept of the estimate
    still_proposed : (v : Value) → IsProposed s g k v → IsProposed s h k v
    still_proposed = IsProposed-grows s g h up k

    still_carried : 0 < c.ts → IsCarried h k c.ts (c.round + 1) c.estimate
    still_carried some = IsCarried-grows s g h up k c.ts (c.round + 1) c.estimate (old.carried some)

    reaches : (P : Standing → Type 0) → P t.after → Reached (member h p) k P
    reaches P x = grind (arith, member-same, now)

    -- what is left to show of a turn
    turn-allowed : IsSound s h p k t.after → ((w : Wire) → Carries t.mail w → IsFounded s h w × IsTimely g w) →
        IsAllowed s g p (turned (member g p) t)
    turn-allowed sound sent = record {
      advance = turns refl c t.after open_at refl onward;
      got = holds.got p is;
      sound = λ d x. rw (← some-same t.after d x) sound;
      sent = sent;
    }

  -- Enter

  abbrev entering : Turn
  entering = entered s.members p k c

  enter_onward : IsOnward c entering.after
  enter_onward = record { round = omega arith; ts = omega arith; chosen = λ r x. inl (grind arith) }

  estimate : IsFoundedEst s (later_state entering) k (c.round + 1) p c.estimate c.ts
  estimate = grind (
    arith,
    is,
    reaches entering enter_onward (HasRound (c.round + 1)),
    still_proposed entering enter_onward c.estimate old.proposed,
    still_carried entering enter_onward,
  )

  after_ack : (r : ℕ) → Sent g (Ack k r p) → r < c.round + 1 → r ≤ c.ts
  after_ack r sent lt =
      let f : IsFoundedAck s g k r p = holds.founded (Ack k r p) sent in standing-reached (member g p) (HasTs r) c open_at f.reached

  enter_allowed : IsAllowed s g p (turned (member g p) entering)
  enter_allowed = turn-allowed entering enter_onward
      (grind (arith, nat_tests, old, still_proposed entering enter_onward c.estimate old.proposed, still_carried entering enter_onward))
      (λ w same. rw same (estimate, after_ack))

  -- Choose

  estimate_sent : (x : Heard Value) → IsIn x got.estimates → Sent g (Est k c.round x.member x.value x.ts)
  estimate_sent x inside = holds.got p is (Est k c.round x.member x.value x.ts) (Readings.estimates-got (member g p).got k c.round x inside)

  module _ (e : Heard Value) (inside : IsIn e got.estimates) (gathers : is_gather c.phase ≡ true) where
    abbrev choosing : Turn
    choosing = chosen k c e

    abbrev then : State
    then = later_state choosing

    choose_onward : IsOnward c choosing.after
    choose_onward = record { round = omega arith; ts = omega (arith, old.ts_low); chosen = λ r x. grind arith }

    proposal_sent : Sent then (Prop k c.round e.value)
    proposal_sent = Sent-new s g p (turned (member g p) choosing) (Prop k c.round e.value) is refl

    proposed : IsProposed s then k e.value
    proposed =
        let f = holds.founded (Est k c.round e.member e.value e.ts) (estimate_sent e inside) in
        still_proposed choosing choose_onward e.value f.proposed

    still_heard : (x : Heard Value) → IsIn x got.estimates → Sent then (Est k c.round x.member x.value x.ts)
    still_heard x i = (up choosing choose_onward).sent (Est k c.round x.member x.value x.ts) (estimate_sent x i)

    others_heard : is_largest got e.ts ≡ true → (q : ℕ) → IsIn q (heard got) → IsHeard then k c.round q e.ts
    others_heard largest q x =
        let f = Readings.heard-in got q x in
        search (rw f.member at (still_heard f.estimate f.is_in), Readings.largest-in got e.ts f.estimate largest f.is_in)

    own : coordinator s.members c.round ≡ p
    own = old.gathers gathers

    proposal : is_majority s.members (heard got) ≡ true → is_largest got e.ts ≡ true → IsFoundedProp s then k c.round e.value
    proposal majority largest = record {
      first = old.started (grind arith);
      sender = rw own is;
      reached = rw own (reaches choosing choose_onward (HasChosen c.round) (inr (refl, refl)));
      proposed = proposed;
      picked = record {
        heard = heard got;
        once = Readings.heard-once (member g p).got k c.round;
        majority = majority_of s.members (heard got) majority;
        from = e.member;
        ts = e.ts;
        best = still_heard e inside;
        others = others_heard largest;
      };
    }

    -- no proposal of the round was sent before
    first : (w : Value) → Sent g (Prop k c.round w) → e.value ≡ w
    first w sent =
        let f : IsFoundedProp s g k c.round w = holds.founded (Prop k c.round w) sent in
        absurd (grind (arith, standing-reached (member g p) (HasChosen c.round) c open_at (rw own at f.reached)))

    choose_allowed : is_majority s.members (heard got) ≡ true → is_largest got e.ts ≡ true → IsAllowed s g p (turned (member g p) choosing)
    choose_allowed majority largest = turn-allowed choosing choose_onward (grind (arith, nat_tests, old, proposed, proposal_sent))
        (λ w same. rw same (proposal majority largest, first))

  -- Adopt and Suspect

  module _ (waits : is_wait c.phase ≡ true) where
    started : 1 ≤ c.round
    started = old.started (grind arith)

    module _ (v : Value) (came : IsIn (Prop k c.round v) (member g p).got) where
      abbrev adopting : Turn
      adopting = adopted s.members p k c v

      adopt_onward : IsOnward c adopting.after
      adopt_onward = record { round = omega arith; ts = omega (arith, old.ts_low); chosen = λ r x. grind arith }

      came_sent : Sent g (Prop k c.round v)
      came_sent = holds.got p is (Prop k c.round v) came

      still_sent : Sent (later_state adopting) (Prop k c.round v)
      still_sent = (up adopting adopt_onward).sent (Prop k c.round v) came_sent

      ack : IsFoundedAck s (later_state adopting) k c.round p
      ack = record { first = started; sender = is; reached = reaches adopting adopt_onward (HasTs c.round) (omega arith) }

      -- no estimate of a later round was sent before
      after_estimate : (later : ℕ) (w : Value) (ts : ℕ) → Sent g (Est k later p w ts) → c.round < later → c.round ≤ ts
      after_estimate later w ts sent lt =
          let f : IsFoundedEst s g k later p w ts = holds.founded (Est k later p w ts) sent in
          let low = standing-reached (member g p) (HasRound later) c open_at f.reached in
          absurd (omega arith)

      adopt_allowed : IsAllowed s g p (turned (member g p) adopting)
      adopt_allowed = turn-allowed adopting adopt_onward (grind (
        arith,
        nat_tests,
        old,
        started,
        still_sent,
        holds.founded (Prop k c.round v) came_sent,
        still_proposed adopting adopt_onward v,
      )) (λ w same. rw same (ack, after_estimate))

    abbrev suspecting : Turn
    suspecting = suspected s.members p k c

    suspect_onward : IsOnward c suspecting.after
    suspect_onward = record { round = omega arith; ts = omega arith; chosen = λ r x. grind arith }

    suspect_allowed : IsAllowed s g p (turned (member g p) suspecting)
    suspect_allowed = turn-allowed suspecting suspect_onward (grind (
      arith,
      nat_tests,
      old,
      started,
      still_proposed suspecting suspect_onward c.estimate old.proposed,
      still_carried suspecting suspect_onward,
      (up suspecting suspect_onward).sent (Prop k c.round c.estimate),
    )) (λ w same. rw same (tt, tt))

  -- Conclude

  module _ (tallies : is_tally c.phase ≡ true) where
    abbrev concluding : Turn
    concluding = concluded s.members k got c

    abbrev decision : Wire
    decision = Dec k c.round c.estimate

    conclude_onward : IsOnward c concluding.after
    conclude_onward = record { round = omega arith; ts = omega arith; chosen = λ r x. grind arith }

    locked : is_majority s.members got.acked ≡ true → IsLocked s g k c.round c.estimate
    locked majority = record {
      proposed = old.tallies_own tallies;
      acked = IsMajority-more s.members (has_ack (member g p).got k c.round) (has_ack (wires g) k c.round)
          (acked-more (member g p).got (wires g) (λ w x. holds.got p is w x) k c.round)
          (rw (Readings.acked-of (member g p).got k c.round) at (majority_of s.members got.acked majority));
    }

    conclude_allowed : IsAllowed s g p (turned (member g p) concluding)
    conclude_allowed = turn-allowed concluding conclude_onward (grind (
      arith,
      nat_tests,
      old,
      still_proposed concluding conclude_onward c.estimate old.proposed,
      still_carried concluding conclude_onward,
    )) (λ w x.
        let r = carried-if (is_majority s.members got.acked) decision w x in
        rw r.1 (IsLocked-grows s g (later_state concluding) (up concluding conclude_onward) k c.round c.estimate (locked r.0), tt))

  pub allowed-turn : (a : Move) (t : Turn) → turn_at s.members p (member g p) a c ≡ Some t → IsAllowed s g p (turned (member g p) t)
  allowed-turn Enter t x = rw (← (enter-is s.members p k (decided (member g p).got k) c t x).gives) enter_allowed
  allowed-turn (Choose from) t x =
      let f = choose-is s.members k got c from t x in
      rw (← f.gives) (choose_allowed f.best (Readings.estimate_from-in got from f.best f.from_is) f.gathers f.majority f.largest)
  allowed-turn Adopt t x =
      let f = adopt-is s.members p k got c t x in
      rw (← f.gives) (adopt_allowed f.waits f.value (Readings.proposal-got (member g p).got k c.round f.value f.proposal_is))
  allowed-turn Suspect t x = let f = suspect-is s.members p k got c t x in rw (← f.gives) (suspect_allowed f.waits)
  allowed-turn Conclude t x = let f = conclude-is s.members k got c t x in rw (← f.gives) (conclude_allowed f.tallies)
