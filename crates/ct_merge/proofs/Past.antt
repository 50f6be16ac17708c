-- What a member has sent it can't send again.
use Rattle.ct_merge.proofs.Common.{◌≡◌, ◌≢◌, ℕ, ◌+◌, ◌*◌, ◌≤◌, Bool, true, false, List, [], ◌∷◌, ◌++◌, Some, None, length, refl, sym, ap}
use Rattle.ct_merge.proofs.Common.{◌∙◌, subst, inl, arith, if◌then◌else◌, nat_tests, coordinator, IsMember, IsIn, Value, has, Wire}
use Rattle.ct_merge.proofs.Common.{Standing, Turn, Mail, KnowsMessages, Outcome, row, receive, turned, turn_at, own_ballots, wire_to}
use Rattle.ct_merge.proofs.Common.{is_rest, is_gather, is_tally, decided, Setting, State, Member, member, submissions, Nobody, One, All}
use Rattle.ct_merge.proofs.Common.{Move, Enter, Choose, Adopt, Suspect, Conclude, Phase, Step, some-same, some-none, Holds, Carries}
use Rattle.ct_merge.proofs.Common.{received-by, enter-is, choose-is, adopt-is, suspect-is, conclude-is, by_shape, carried_of, rank, stage}
use Rattle.ct_merge.proofs.Common.{HasPassed, HasMessage, HasDecision, IsPast, Carried, Data, Est, Prop, Ack, Nack, Dec}
use Rattle.ct_names.specs.declared.command.Command.{Command}
use Rattle.ct_names.specs.Message.{Message}
use Rattle.ct_model.specs.Next.{begin, deliver, follow, is_relayed, next_message}
use Rattle.ct_model.specs.Phases.{is_wait, entered, chosen, adopted, suspected, replied_phase}
use Rattle.ct_model.specs.Received.{received, has_decision, is_decision}
use Rattle.ct_model.specs.declared.phase.Phase.TheVariants.{Rest, Wait}
use Rattle.ct_model.proofs.Record.Envelopes.{wire_to-sent}
use Rattle.ct_names.proofs.Lists
use Rattle.ct_names.proofs.Values
use Rattle.ct_model.specs.declared.wire.Wire.TheVariants as wire
use Rattle.ct_model.proofs.Consensus.Readings

-- ---- on from one member to a later one

-- what is behind it stays behind it
pub record IsOn (m o : Member) : Type 0 where
  pub passed : (k far : ℕ) → HasPassed m k far → HasPassed o k far
  pub got : (w : Wire) → IsIn w m.got → IsIn w o.got

on_same : (m o : Member) → o.last ≡ m.last → o.current ≡ m.current → ((w : Wire) → IsIn w m.got → IsIn w o.got) → IsOn m o
on_same m o last current got = record {
  passed = λ k far h. record { instance = omega (arith, h.instance); stage = λ e c at. h.stage (e ∙ last) c (sym current ∙ at) };
  got = got;
}

on_turn : (m : Member) (c d : Standing) → m.current ≡ Some c → stage c ≤ stage d → IsOn m (record m { current = Some d })
on_turn m c d open_at more = record {
  passed = λ k far h. record {
    instance = h.instance;
    stage = λ e x at.
        let low : far ≤ stage c = h.stage e c open_at in
        let same : d ≡ x = some-same d x at in
        subst (λ y. far ≤ stage y) same (omega arith);
  };
  got = λ w h. h;
}

on_more : (m o : Member) → o.last ≡ m.last + 1 → o.got ≡ m.got → IsOn m o
on_more m o last got = record {
  passed = λ k far h. record { instance = omega (arith, h.instance); stage = λ e c at. absurd (omega (arith, h.instance)) };
  got = λ w h. rw got h;
}

on_closed : (m o : Member) → o.last ≡ m.last → o.current ≡ None → o.got ≡ m.got → IsOn m o
on_closed m o last closed got = record {
  passed = λ k far h. record { instance = omega (arith, h.instance); stage = λ e c at. some-none c (sym closed ∙ at) };
  got = λ w h. rw got h;
}

message_on : (m o : Member) → IsOn m o → (x n : ℕ) → HasMessage m x n → HasMessage o x n
message_on m o on x n h = record { message = h.message; is_in = on.got (wire.Data h.message) h.is_in; origin = h.origin; number = h.number }

pub decision_on : (m o : Member) → IsOn m o → (k r : ℕ) → HasDecision m k r → HasDecision o k r
decision_on m o on k r h = record { value = h.value; is_in = on.got (wire.Dec k r h.value) h.is_in }

pub past_on : (n p : ℕ) (m o : Member) (a b : ℕ) → IsOn m o → a ≤ b → (c : Carried) → IsPast n p m a c → IsPast n p o b c
past_on n p m o a b on more (Data x i) h = ((λ e. let low = h.0 e in omega arith), (λ ne. message_on m o on x i (h.1 ne)))
past_on n p m o a b on more (Est k r) h = on.passed k (r * 4) h
past_on n p m o a b on more (Prop k r) h = on.passed k (r * 4 + 1) h
past_on n p m o a b on more (Ack k r) h = on.passed k (r * 4 + 2) h
past_on n p m o a b on more (Nack k r) h = on.passed k (r * 4 + 2) h
past_on n p m o a b on more (Dec k r) h = ((λ e. on.passed k (r * 4 + 3) (h.0 e)), (λ ne. decision_on m o on k r (h.1 ne)))

-- ---- what a step sends

-- a step of p, this member of a group of n that submitted so many messages, leaves it so, and so many, and sends this: what was behind
-- it stays so, nothing of that is sent, and what is sent is behind it
pub record SendsOnce (n p : ℕ) (m : Member) (count : ℕ) (o : Member) (more : ℕ) (mail : Mail) : Type 0 where
  pub on : IsOn m o
  pub fresh : (x : Wire) → Carries mail x → IsPast n p m count (carried_of x) → ⊥
  pub past : (x : Wire) → Carries mail x → IsPast n p o more (carried_of x)

silent : (n p : ℕ) (m : Member) (count : ℕ) (o : Member) → IsOn m o → SendsOnce n p m count o count Nobody
silent n p m count o on = record { on = on; fresh = λ x c h. c; past = λ x c. absurd c }

-- the ranks of phases
rests : (f : Phase) → is_rest f ≡ true → rank f ≡ 3
rests f e = grind arith

gathers : (f : Phase) → is_gather f ≡ true → rank f ≡ 0
gathers f e = grind arith

waits : (f : Phase) → is_wait f ≡ true → rank f ≡ 1
waits f e = grind arith

tallies : (f : Phase) → is_tally f ≡ true → rank f ≡ 2
tallies f e = grind arith

replied : (n me round : ℕ) → 2 ≤ rank (replied_phase n me round)
replied n me round = grind arith

module _ (n p : ℕ) (m : Member) (count : ℕ) (c : Standing) (open_at : m.current ≡ Some c) where
  abbrev turned_to : Turn → Member
  turned_to t = record m { current = Some t.after }

  -- how far p is in the open instance
  not_past : (far : ℕ) → HasPassed m m.last far → far ≤ stage c
  not_past far h = h.stage refl c open_at

  now_past : (t : Turn) (far : ℕ) → far ≤ stage t.after → HasPassed (turned_to t) m.last far
  now_past t far h = record { instance = omega arith; stage = λ e x at. subst (λ y. far ≤ stage y) (some-same t.after x at) h }

  enters : is_rest c.phase ≡ true → SendsOnce n p m count (turned_to (entered n p m.last c)) count (entered n p m.last c).mail
  enters rest =
      let r : rank c.phase ≡ 3 = rests c.phase rest in
      record {
        on = on_turn m c (entered n p m.last c).after open_at (omega arith);
        fresh = λ x same h.
            let h : HasPassed m m.last ((c.round + 1) * 4) = rw same at h in
            let low = not_past ((c.round + 1) * 4) h in omega arith;
        past = λ x same. rw same (now_past (entered n p m.last c) ((c.round + 1) * 4) (omega arith));
      }

  chooses : (v : Value) (x : Standing) → is_gather c.phase ≡ true → x.round ≡ c.round → x.phase ≡ Wait →
      SendsOnce n p m count (record m { current = Some x }) count (All (wire.Prop m.last c.round v))
  chooses v d gather round phase =
      let r : rank c.phase ≡ 0 = gathers c.phase gather in
      let t : Turn = record { after = d; mail = All (wire.Prop m.last c.round v) } in
      let s : rank d.phase ≡ 1 = ap rank phase in
      record {
        on = on_turn m c d open_at (omega arith);
        fresh = λ x same h.
            let h : HasPassed m m.last (c.round * 4 + 1) = rw same at h in
            let low = not_past (c.round * 4 + 1) h in omega arith;
        past = λ x same. rw same (now_past t (c.round * 4 + 1) (omega arith));
      }

  -- a reply of the round
  replies : (d : Standing) (to : ℕ) (w : Wire) → is_wait c.phase ≡ true → d.round ≡ c.round → d.phase ≡ replied_phase n p c.round →
      (HasPassed m m.last (c.round * 4 + 2) → ⊥) ≡ (IsPast n p m count (carried_of w) → ⊥) →
      ((o : Member) → HasPassed o m.last (c.round * 4 + 2) → IsPast n p o count (carried_of w)) →
      SendsOnce n p m count (record m { current = Some d }) count (One to w)
  replies d to w waiting round phase same_name then_past =
      let r : rank c.phase ≡ 1 = waits c.phase waiting in
      let t : Turn = record { after = d; mail = One to w } in
      let s : 2 ≤ rank d.phase = subst (λ f. 2 ≤ rank f) (sym phase) (replied n p c.round) in
      record {
        on = on_turn m c d open_at (omega arith);
        fresh = λ x same h.
            let h : IsPast n p m count (carried_of w) = rw same at h in
            let out : HasPassed m m.last (c.round * 4 + 2) → ⊥ = λ passed. let low = not_past (c.round * 4 + 2) passed in omega arith in
            subst (λ (t : Type 0). t) same_name out h;
        past = λ x same. rw same (then_past (record m { current = Some d }) (now_past t (c.round * 4 + 2) (omega arith)));
      }

  concludes : coordinator n c.round ≡ p → is_tally c.phase ≡ true → (majority : Bool) →
      SendsOnce n p m count (record m { current = Some (record { round = c.round; phase = Rest; estimate = c.estimate; ts = c.ts }) })
      count (if majority then All (wire.Dec m.last c.round c.estimate) else Nobody)
  concludes own tally true =
      let d : Standing = record { round = c.round; phase = Rest; estimate = c.estimate; ts = c.ts } in
      let r : rank c.phase ≡ 2 = tallies c.phase tally in
      let t : Turn = record { after = d; mail = All (wire.Dec m.last c.round c.estimate) } in
      record {
        on = on_turn m c d open_at (omega arith);
        fresh = λ x same h.
            let h : IsPast n p m count (Dec m.last c.round) = rw same at h in
            let low = not_past (c.round * 4 + 3) (h.0 own) in omega arith;
        past = λ x same.
            let now : IsPast n p (record m { current = Some d }) count (Dec m.last c.round) =
            ((λ e. now_past t (c.round * 4 + 3) (omega arith)), (λ ne. absurd (ne own))) in
            rw same now;
      }
  concludes own tally false =
      let d : Standing = record { round = c.round; phase = Rest; estimate = c.estimate; ts = c.ts } in
      let r : rank c.phase ≡ 2 = tallies c.phase tally in
      silent n p m count (record m { current = Some d }) (on_turn m c d open_at (omega arith))

  -- each turn
  turns_once : (is_tally c.phase ≡ true → coordinator n c.round ≡ p) → (a : Move) (t : Turn) → turn_at n p m a c ≡ Some t →
      SendsOnce n p m count (turned_to t) count t.mail
  turns_once own Enter t h =
      let f = enter-is n p m.last (decided m.got m.last) c t h in
      subst (λ (x : Turn). SendsOnce n p m count (turned_to x) count x.mail) f.gives (enters f.rests)
  turns_once own (Choose from) t h =
      let f = choose-is n m.last (own_ballots m c) c from t h in
      subst (λ (x : Turn). SendsOnce n p m count (turned_to x) count x.mail) f.gives
      (chooses f.best.value (chosen m.last c f.best).after f.gathers refl refl)
  turns_once own Adopt t h =
      let f = adopt-is n p m.last (own_ballots m c) c t h in
      subst (λ (x : Turn). SendsOnce n p m count (turned_to x) count x.mail) f.gives
      (replies (adopted n p m.last c f.value).after (coordinator n c.round) (wire.Ack m.last c.round p) f.waits refl refl refl (λ o h. h))
  turns_once own Suspect t h =
      let f = suspect-is n p m.last (own_ballots m c) c t h in
      subst (λ (x : Turn). SendsOnce n p m count (turned_to x) count x.mail) f.gives
      (replies (suspected n p m.last c).after (coordinator n c.round) (wire.Nack m.last c.round p) f.waits refl refl refl (λ o h. h))
  turns_once own Conclude t h =
      let f = conclude-is n m.last (own_ballots m c) c t h in
      subst (λ (x : Turn). SendsOnce n p m count (turned_to x) count x.mail) f.gives (concludes (own f.tallies) f.tallies _)

-- ---- what it relays

-- a message that it relays it got for the first time, and is another's; so is a decision, which another made
relayed_message : (s : Setting) (p : ℕ) (got : List Wire) (m : Message) → is_relayed s p got (wire.Data m) ≡ true →
    (has (received got) m ≡ false) × (m.origin ≢ p)
unfolding is_relayed
relayed_message s p got m h = (grind (arith, nat_tests), grind (arith, nat_tests))

pub relayed_decision : (s : Setting) (p : ℕ) (got : List Wire) (k r : ℕ) (v : Value) → is_relayed s p got (wire.Dec k r v) ≡ true →
    (has_decision got k r ≡ false) × (coordinator s.members r ≢ p)
unfolding is_relayed
relayed_decision s p got k r v h = (grind (arith, nat_tests), grind (arith, nat_tests))

decided_there : (m : Member) (k r : ℕ) → HasDecision m k r → has_decision m.got k r ≡ true
decided_there m k r h = Lists.list_any-found (is_decision k r) (wire.Dec k r h.value) m.got h.is_in (grind (arith, nat_tests))

module _ (s : Setting) (g : State) (p : ℕ) (knows : KnowsMessages s g) (holds : Holds s g) (is : IsMember s.members p) where
  abbrev m : Member
  m = member g p

  abbrev count : ℕ
  count = submissions g.submitted p

  gets_on : (w : Wire) → IsOn m (record m { got = m.got ++ w ∷ [] })
  gets_on w = on_same m (record m { got = m.got ++ w ∷ [] }) refl refl (λ x h. Lists.IsIn-append_left x m.got (w ∷ []) h)

  -- a message that p received, and one that was sent, were submitted
  got_known : (x : Message) → IsIn (wire.Data x) m.got → has g.submitted x ≡ true
  got_known x h = knows.received p x (rw (received-by g p) (Values.has-in (received m.got) x (Readings.got-received m.got x h)))

  sent_known : (x : Message) (k : ℕ) → wire_to g p k ≡ Some (wire.Data x) → has g.submitted x ≡ true
  sent_known x k at =
      let sent = wire_to-sent g p k (wire.Data x) at in
      rw sent.wire at (knows.sent sent.place sent.envelope sent.there)

  relays_fresh : (w : Wire) (k : ℕ) → wire_to g p k ≡ Some w → is_relayed s p m.got w ≡ true →
      IsPast s.members p m count (carried_of w) → ⊥
  unfolding is_relayed
  relays_fresh (wire.Data x) k at relayed h =
      let r = relayed_message s p m.got x relayed in
      let old = h.1 r.1 in
      let same : old.message ≡ x = knows.unique old.message x (got_known old.message old.is_in) (sent_known x k at) old.origin old.number in
      let there : has (received m.got) x ≡ true = Values.has-in (received m.got) x (Readings.got-received m.got x (rw same at old.is_in)) in
      cc
  relays_fresh (wire.Dec k r v) i at relayed h =
      let f = relayed_decision s p m.got k r v relayed in
      let there = decided_there m k r (h.1 f.1) in
      cc
  relays_fresh _ i at relayed h = cc

  relays_past : (w : Wire) (more : ℕ) → is_relayed s p m.got w ≡ true →
      IsPast s.members p (record m { got = m.got ++ w ∷ [] }) more (carried_of w)
  unfolding is_relayed
  relays_past (wire.Data x) more relayed =
      let r = relayed_message s p m.got x relayed in (
        (λ e. absurd (r.1 e)),
        (λ ne. record {
          message = x;
          is_in = Lists.IsIn-append_right (wire.Data x) m.got (wire.Data x ∷ []) (inl refl);
          origin = refl;
          number = refl;
        }),
      )
  relays_past (wire.Dec k r v) more relayed =
      let f = relayed_decision s p m.got k r v relayed in (
        (λ e. absurd (f.1 e)),
        (λ ne. record { value = v; is_in = Lists.IsIn-append_right (wire.Dec k r v) m.got (wire.Dec k r v ∷ []) (inl refl) }),
      )
  relays_past _ more relayed = absurd (cc)

  -- ---- each step

  gets_once : (w : Wire) (k : ℕ) → wire_to g p k ≡ Some w → (b : Bool) → is_relayed s p m.got w ≡ b →
      SendsOnce s.members p m count (record m { got = m.got ++ w ∷ [] }) count (if b then All w else Nobody)
  gets_once w k at true relayed = record {
    on = gets_on w;
    fresh = λ x same h. relays_fresh w k at relayed (rw same at h);
    past = λ x same. rw same (relays_past w count relayed);
  }
  gets_once w k at false relayed = silent s.members p m count (record m { got = m.got ++ w ∷ [] }) (gets_on w)

  submits_once : (c : Command) (more : ℕ) → more ≡ count + 1 →
      SendsOnce s.members p m count m more (All (wire.Data (next_message g.submitted p c)))
  submits_once c more e = record {
    on = on_same m m refl refl (λ w h. h);
    fresh = λ x same h.
        let h : IsPast s.members p m count (Data p (1 + count)) = rw same at h in
        let low = h.0 refl in omega arith;
    past = λ x same.
        let now : IsPast s.members p m more (Data p (1 + count)) = ((λ own. omega (arith, e)), (λ ne. absurd (ne refl))) in
        rw same now;
  }

  -- with as many messages
  as_many : (o : Member) (mail : Mail) (more : ℕ) → more ≡ count + 0 → SendsOnce s.members p m count o count mail →
      SendsOnce s.members p m count o more mail
  as_many o mail more e h = let same : count ≡ more = omega arith in subst (λ x. SendsOnce s.members p m count o x mail) same h

  abbrev IsOnce : Outcome → Type 0
  IsOnce o = (more : ℕ) → more ≡ count + length o.submitted → SendsOnce s.members p m count o.member more o.mail

  pub sends_once : (step : Step) (o : Outcome) → row s g p m step ≡ Some o → IsOnce o
  sends_once step o = by_shape s g p m IsOnce step o (record {
    submits = λ c good more e. submits_once c more e;
    gets = λ k w at more e.
        as_many (receive s p m w).member (receive s p m w).mail more e (gets_once w k at (is_relayed s p m.got w) refl);
    opens = λ idle some more e. as_many (begin s p m).member Nobody more e
        (silent s.members p m count (begin s p m).member (on_more m (begin s p m).member refl refl));
    turns = λ a c t open_at taken more e. as_many (turned m t).member t.mail more e
        (turns_once s.members p m count c open_at (holds.sound p is c open_at).tallies a t taken);
    closes = λ c v open_at has delivers more e. as_many (deliver m v).member Nobody more e
        (silent s.members p m count (deliver m v).member (on_closed m (deliver m v).member refl refl refl));
    follows = λ v idle has delivers more e. as_many (follow m v).member Nobody more e
        (silent s.members p m count (follow m v).member (on_more m (follow m v).member refl refl));
    marks = λ crashed more e. as_many (record m { crashed = crashed }) Nobody more e
        (silent s.members p m count (record m { crashed = crashed })
        (on_same m (record m { crashed = crashed }) refl refl (λ w h. h)));
  })
