-- What may come no more its sender never sends.
use Rattle.ct_merge.proofs.Common.{◌≡◌, ◌≢◌, ℕ, ◌+◌, ◌*◌, ◌≤◌, ◌⊎◌, ◌&&◌, ◌||◌, ◌==◌, Bool, true, false, not, [], ◌∷◌, ◌++◌, Option, Some}
use Rattle.ct_merge.proofs.Common.{None, length, inl, inr, refl, sym, ap, ap₂, ◌∙◌, subst, arith, is_some, nat_le, nat_lt, option_map}
use Rattle.ct_merge.proofs.Common.{length-append, filter, if◌then◌else◌, and_parts, nat_tests, filter-append, coordinator, is_member}
use Rattle.ct_merge.proofs.Common.{IsMember, IsIn, actor, Standing, Wire, without_value, Outcome, next, plain, receive, row, turn_at}
use Rattle.ct_merge.proofs.Common.{wire_to, decided, Rehearsal, extended, state_of, Setting, Member, State, at_serial, is_crashed, member}
use Rattle.ct_merge.proofs.Common.{submissions, Nobody, Phase, Step, member_is, made-map, some-none, some-same, when-is, number_same}
use Rattle.ct_merge.proofs.Common.{same_number, state-first, submissions-first, history-run, deliver_row-is, follow_row-is, Carried, Data}
use Rattle.ct_merge.proofs.Common.{Est, Prop, Ack, Nack, Dec, IsDone, nobody, stopped, unable, unknown, HasDecision, HasMessage, HasPassed}
use Rattle.ct_merge.proofs.Common.{rank, stage, IsRun, IsOfGroup, SendsNoMore, SkipsRound, elsewhere, past, proposed, skipped, FullName}
use Rattle.std.proofs.lemmas.Bool.{and_cases, leb-true, ltb-false, not-false}
use Rattle.std.proofs.lemmas.List.Sums.{length-filter}
use Rattle.ct_model.specs.Mapped.{wire_map}
use Rattle.ct_model.specs.Next.{crash, submit}
use Rattle.ct_names.specs.Command.{is_good}
use Rattle.ct_model.specs.declared.wire.Wire.{Wire as AnyWire}
use Rattle.ct_model.proofs.Steps.Rows.{begin_row-is, round_row-is}
use Rattle.ct_merge.specs.Sending.{choosing, concluding, has_before, is_later, is_of_group, is_passed, is_receipt, is_submission, may_come}
use Rattle.ct_merge.specs.Sending.{may_send, passes, phase_at, phase_in, received, replying, submitted}
use Rattle.ct_merge.specs.Unable.{HasProposal}
use Rattle.ct_merge.proofs.Begun.{is_member_of}
use Rattle.ct_merge.proofs.Running.{by_steps, known, state_next}
use Rattle.ct_merge.proofs.SentOnce.{counted, stepping}
use Rattle.ct_names.proofs.Lists
use Rattle.ct_model.specs.declared.moves.Move.TheVariants as moves
use Rattle.ct_model.specs.declared.step.Step.TheVariants as step
use Rattle.ct_model.specs.declared.wire.Wire.TheVariants as wire
use Rattle.ct_model.proofs.Consensus.Readings

-- ---- what it did

-- how many messages of q's a step submits
one_submitted : (x : Step) (b : Bool) → length (if b then x ∷ [] else []) ≡ (if b then 1 else 0)
one_submitted x true = refl
one_submitted x false = refl

silent : (x o : Outcome) (b : Bool) → x ≡ o → length x.submitted ≡ 0 → 0 ≡ (if b then length o.submitted else 0)
silent x o true e none = sym none ∙ ap (λ (o : Outcome). length o.submitted) e
silent x o false e none = refl

submits : (s : Setting) (g : State) (p : ℕ) (m : Member) (step : Step) (o : Outcome) → row s g p m step ≡ Some o → (q : ℕ) →
    length (filter (is_submission q) (step ∷ [])) ≡ (if actor step == q then length o.submitted else 0)
submits s g p m (step.Submit a c) o e q =
    subst (λ (o : Outcome). length (filter (is_submission q) (step.Submit a c ∷ [])) ≡ (if a == q then length o.submitted else 0))
    (when-is (is_good c) (submit g p m c) o e).1 (one_submitted (step.Submit a c) (a == q))
submits s g p m (step.Receive a k) o e q = silent _ o (a == q) (made-map (receive s p m) (wire_to g p k) o e).gives refl
submits s g p m (step.Begin a) o e q = silent _ o (a == q) (begin_row-is s p m o e).1 refl
submits s g p m (step.Enter a) o e q = silent _ o (a == q) (round_row-is m (turn_at s.members p m moves.Enter) o e).gives refl
submits s g p m (step.Choose a from) o e q = silent _ o (a == q) (round_row-is m (turn_at s.members p m (moves.Choose from)) o e).gives refl
submits s g p m (step.Adopt a) o e q = silent _ o (a == q) (round_row-is m (turn_at s.members p m moves.Adopt) o e).gives refl
submits s g p m (step.Suspect a) o e q = silent _ o (a == q) (round_row-is m (turn_at s.members p m moves.Suspect) o e).gives refl
submits s g p m (step.Conclude a) o e q = silent _ o (a == q) (round_row-is m (turn_at s.members p m moves.Conclude) o e).gives refl
submits s g p m (step.Deliver a) o e q = silent _ o (a == q) (deliver_row-is m o e).1 refl
submits s g p m (step.Follow a) o e q = silent _ o (a == q) (follow_row-is m o e).1 refl
submits s g p m (step.Crash a) o e q = silent _ o (a == q) (some-same (crash m) o e) refl
submits s g p m (step.Postpone a k) o e q = silent _ o (a == q) (made-map (λ (w : Wire). plain m Nobody) (wire_to g p k) o e).gives refl
submits s g p m (step.Lose a k) o e q = silent _ o (a == q) (made-map (λ (w : Wire). plain m Nobody) (wire_to g p k) o e).gives refl
submits s g p m (step.Repeat a k) o e q = silent _ o (a == q) (made-map (λ (w : Wire). plain m Nobody) (wire_to g p k) o e).gives refl

submitted_more : (w : Rehearsal) (step : Step) (h : State) → IsRun w → next w.setting (state_of w) step ≡ Some h →
    ((p : ℕ) → submitted w p ≡ submissions (state_of w).submitted p) → (p : ℕ) →
    submitted (extended w step) p ≡ submissions (state_of (extended w step)).submitted p
unfolding submitted
submitted_more w step h r e old p =
    let facts = known w r in
    let t = stepping w step h r e in
    sym (length-filter (is_submission p) (w.steps ++ step ∷ []))
    ∙ (ap length (filter-append (is_submission p) w.steps (step ∷ []))
    ∙ (length-append (filter (is_submission p) w.steps) (filter (is_submission p) (step ∷ []))
    ∙ (ap (λ n. n + length (filter (is_submission p) (step ∷ []))) (length-filter (is_submission p) w.steps ∙ old p)
    ∙ (ap (λ n. submissions (state_of w).submitted p + n)
    (submits w.setting (state_of w) (actor step) (member (state_of w) (actor step)) step t.outcome t.row p)
    ∙ (sym (counted w.setting (state_of w) step h t facts.holds facts.knows p)
    ∙ ap (λ (g : State). submissions g.submitted p) (sym (state_next w step h e)))))))

submitted_is : (w : Rehearsal) → IsRun w → (p : ℕ) → submitted w p ≡ submissions (state_of w).submitted p
unfolding submitted
submitted_is = by_steps (λ w. (p : ℕ) → submitted w p ≡ submissions (state_of w).submitted p)
    (λ s cells p. sym (ap (λ (g : State). submissions g.submitted p) (state-first s cells) ∙ submissions-first s p)) submitted_more

-- the wire without its value
abbrev bare : Wire → AnyWire (Unit {0})
bare x = wire_map (λ _. tt) x

-- p received a wire that carries this
record IsReceived (w : Rehearsal) (p : ℕ) (c : Carried) : Type 0 where
  pub wire : Wire
  pub is_in : IsIn wire (member (state_of w) p).got
  pub passes : passes (bare wire) c ≡ true

receipt_of : (w : Rehearsal) → IsRun w → (p : ℕ) → IsMember w.setting.members p → (c : Carried) (x : Step) → IsIn x w.steps →
    is_receipt w p c x ≡ true → IsReceived w p c
receipt_of w r p isp c (step.Receive q k) there e =
    let two = and_parts (q == p) (is_passed c (option_map without_value (at_serial (state_of w).sent k))) e in
    let here : IsIn (step.Receive p k) w.steps = subst (λ z. IsIn (step.Receive z k) w.steps) (same_number q p two.0) there in
    let f = (history-run w.setting w.steps (state_of w) r).come p k isp here in
    record { wire = (f.envelope).wire; is_in = f.got; passes = subst (λ o. is_passed c (option_map without_value o) ≡ true) f.at two.1 }
receipt_of w r p isp c _ there e = absurd (cc)

received_is : (w : Rehearsal) → IsRun w → (p : ℕ) → IsMember w.setting.members p → (c : Carried) → received w p c ≡ true →
    IsReceived w p c
unfolding received
received_is w r p isp c e =
    let f = Lists.found-list_any (is_receipt w p c) w.steps e in
    receipt_of w r p isp c f.item f.is_in f.passes

message_got : (m : Member) (o n : ℕ) (x : Wire) → IsIn x m.got → passes (bare x) (Data o n) ≡ true → HasMessage m o n
message_got m o n (wire.Data y) there e =
    record { message = y; is_in = there; origin = grind (arith, nat_tests); number = grind (arith, nat_tests) }
message_got m o n _ there e = absurd (cc)

proposal_got : (m : Member) (k r : ℕ) (x : Wire) → IsIn x m.got → passes (bare x) (Prop k r) ≡ true → HasProposal m k r
proposal_got m k r (wire.Prop i s v) there e =
    let same : wire.Prop i s v ≡ wire.Prop k r v = grind (arith, nat_tests) in
    record { value = v; is_in = subst (λ z. IsIn z m.got) same there }
proposal_got m k r _ there e = absurd (cc)

decision_got : (m : Member) (k r : ℕ) (x : Wire) → IsIn x m.got → passes (bare x) (Dec k r) ≡ true → HasDecision m k r
decision_got m k r (wire.Dec i s v) there e =
    let same : wire.Dec i s v ≡ wire.Dec k r v = grind (arith, nat_tests) in
    record { value = v; is_in = subst (λ z. IsIn z m.got) same there }
decision_got m k r _ there e = absurd (cc)

-- ---- what is before it

some_of : {A : Type 0} (o : Option A) → is_some o ≡ true → (x : A) × (o ≡ Some x)
some_of None e = absurd (cc)
some_of (Some x) e = (x, refl)

round_from : (k r : ℕ) → (nat_le 1 k && nat_le 1 r) ≡ true → 1 ≤ r
round_from k r e = leb-true 1 r (and_parts (nat_le 1 k) (nat_le 1 r) e).1

-- a member, by its state
module _ (m : Member) (k r : ℕ) where
  abbrev here : Option (ℕ × Phase)
  here = option_map (λ (c : Standing). (c.round, c.phase)) m.current

  abbrev ahead : Bool
  ahead = nat_lt m.last k || ((k == m.last) && is_later here r)

  not_ahead : ahead ≡ false → HasPassed m k (r * 4)
  not_ahead e = record {
    instance = grind (arith, nat_tests);
    stage = λ same c at.
        let later : is_later here r ≡ nat_lt c.round r = ap (λ o. is_later (option_map (λ (c : Standing). (c.round, c.phase)) o) r) at in
        let low : r ≤ c.round = grind (arith, nat_tests) in
        omega (arith, low);
  }

  skips : 1 ≤ r → ahead ≡ true → is_some (decided m.got k) ≡ true → SkipsRound m k r
  skips first e has =
      let v = some_of (decided m.got k) has in
      let d = Readings.decided-got m.got k v.0 v.1 in
      record {
        first = first;
        round = d.round;
        decision = record { value = v.0; is_in = d.is_in };
        before = λ same c at.
            let later : is_later here r ≡ nat_lt c.round r =
            ap (λ o. is_later (option_map (λ (c : Standing). (c.round, c.phase)) o) r) at in
            grind (arith, nat_tests);
      }

-- ---- a member that may not send

-- it is past this in the round, or skips that
abbrev HasNoMore : Member → ℕ → ℕ → ℕ → Type 0
HasNoMore m k r far = HasPassed m k (r * 4 + far) ⊎ SkipsRound m k r

-- a test whether p may send something of a round, by its phase there, which needs the phase to be no later than this
record IsTestOf (test : Option Phase → Bool → Bool) (far : ℕ) : Type 0 where
  pub before : (b : Bool) → test None b ≡ b
  pub within : (f : Phase) (b : Bool) → test (Some f) b ≡ false → far ≤ rank f
  pub few : far ≤ 3

choosing_is : IsTestOf choosing 1
choosing_is = record { before = λ b. refl; within = λ f b e. grind arith; few = omega arith }

replying_is : IsTestOf replying 2
replying_is = record { before = λ b. refl; within = λ f b e. grind arith; few = omega arith }

concluding_is : IsTestOf concluding 3
concluding_is = record { before = λ b. refl; within = λ f b e. grind arith; few = omega arith }

rank_most : (f : Phase) → rank f ≤ 3
rank_most f = grind arith

module _ (w : Rehearsal) (q : ℕ) (isq : IsMember w.setting.members q) where
  abbrev m : Member
  m = member (state_of w) q

  before_is : (k r : ℕ) → has_before w q k r ≡ (not (is_some (decided m.got k)) && ahead m k r)
  unfolding has_before
  before_is k r = rw (is_member_of w.setting.members q isq) refl

  phase_is : (k r : ℕ) → phase_in w q k r ≡ phase_at (Some (m.last, is_some m.current)) (here m k r) k r
  unfolding phase_in
  phase_is k r = rw (is_member_of w.setting.members q isq) refl

  before_false : (k r : ℕ) → 1 ≤ r → has_before w q k r ≡ false → HasPassed m k (r * 4) ⊎ SkipsRound m k r
  before_false k r first e = go (ahead m k r) refl (is_some (decided m.got k)) refl
    where
      go : (a : Bool) → ahead m k r ≡ a → (d : Bool) → is_some (decided m.got k) ≡ d → HasPassed m k (r * 4) ⊎ SkipsRound m k r
      go false is d has = inl (not_ahead m k r is)
      go true is true has = inr (skips m k r first is has)
      go true is false has =
          let yes : has_before w q k r ≡ true = before_is k r ∙ ap₂ (λ a b. not a && b) has is in
          absurd (cc)

  module _ (test : Option Phase → Bool → Bool) (far : ℕ) (t : IsTestOf test far) (k r : ℕ) (first : 1 ≤ r)
      (e : test (phase_in w q k r) (has_before w q k r) ≡ false) where
    -- in no phase of the round
    apart : phase_in w q k r ≡ None → ((c : Standing) → k ≡ m.last → m.current ≡ Some c → c.round ≢ r) → HasNoMore m k r far
    apart none other =
        let before : has_before w q k r ≡ false =
        sym (t.before (has_before w q k r)) ∙ (ap (λ o. test o (has_before w q k r)) (sym none) ∙ e) in
        elim (before_false k r first before) [
          | inl h ↦ inl (record {
            instance = h.instance;
            stage = λ same c at.
                let low : r * 4 ≤ stage c = h.stage same c at in
                let ne : c.round ≢ r = other c same at in
                let most : rank c.phase ≤ 3 = rank_most c.phase in
                let few : far ≤ 3 = t.few in
                omega (arith, low, ne, most, few);
          })
          | inr s ↦ inr s
        ]

    -- in this one
    within : (c : Standing) → m.current ≡ Some c → ((k == m.last) && (c.round == r)) ≡ true → HasNoMore m k r far
    within c at is =
        let two = and_parts (k == m.last) (c.round == r) is in
        let same : k ≡ m.last = same_number k m.last two.0 in
        let round : c.round ≡ r = same_number c.round r two.1 in
        let phase : phase_in w q k r ≡ Some c.phase =
        phase_is k r
        ∙ (ap (λ o. phase_at (Some (m.last, is_some m.current)) (option_map (λ (c : Standing). (c.round, c.phase)) o) k r) at
        ∙ ap (λ b. if b then Some c.phase else None) is) in
        let low : far ≤ rank c.phase = t.within c.phase (has_before w q k r) (ap (λ o. test o (has_before w q k r)) (sym phase) ∙ e) in
        inl (record {
          instance = omega (arith, same);
          stage = λ _ x there.
              let is_c : c ≡ x = some-same c x (sym at ∙ there) in
              subst (λ y. r * 4 + far ≤ stage y) is_c (omega (arith, round, low));
        })

    phase_false : HasNoMore m k r far
    phase_false = go m.current refl
      where
        by_test : (c : Standing) → m.current ≡ Some c → (b : Bool) → ((k == m.last) && (c.round == r)) ≡ b → HasNoMore m k r far
        by_test c at true is = within c at is
        by_test c at false is =
            apart
            (phase_is k r
            ∙ (ap (λ o. phase_at (Some (m.last, is_some m.current)) (option_map (λ (c : Standing). (c.round, c.phase)) o) k r) at
            ∙ ap (λ b. if b then Some c.phase else None) is))
            (λ x same there round.
            let is_c : c ≡ x = some-same c x (sym at ∙ there) in
            let here : c.round ≡ r = ap (λ (y : Standing). y.round) is_c ∙ round in
            let yes : ((k == m.last) && (c.round == r)) ≡ true =
            ap₂ (λ a b. a && b) (number_same k m.last same) (number_same c.round r here) in
            cc)

        go : (o : Option Standing) → m.current ≡ o → HasNoMore m k r far
        go None at =
            apart
            (phase_is k r
            ∙ ap (λ o. phase_at (Some (m.last, is_some m.current)) (option_map (λ (c : Standing). (c.round, c.phase)) o) k r) at)
            (λ x same there. some-none x (sym at ∙ there))
        go (Some c) at = by_test c at ((k == m.last) && (c.round == r)) refl

  -- by what it would send, to p
  module _ (run : IsRun w) (p : ℕ) where
    abbrev n : ℕ
    n = w.setting.members

    abbrev count : ℕ
    count = submissions (state_of w).submitted q

    abbrev NoMore : Carried → Type 0
    NoMore c = SendsNoMore n q p m count c

    message_no_more : (o i : ℕ) →
        (if o == q then nat_lt (submitted w q) i else not (received w q (Data o i))) ≡ false → NoMore (Data o i)
    message_no_more o i e = go (o == q) refl e
      where
        go : (b : Bool) → (o == q) ≡ b →
            (if b then nat_lt (submitted w q) i else not (received w q (Data o i))) ≡ false → NoMore (Data o i)
        go true is e =
            let same : submitted w q ≡ count = submitted_is w run q in
            let low : i ≤ count = subst (λ k. i ≤ k) same (ltb-false (submitted w q) i e) in
            past ((λ own. low), (λ ne. absurd (ne (same_number o q is))))
        go false is e =
            let f = received_is w run q isq (Data o i) (not-false (received w q (Data o i)) e) in
            past ((λ own. absurd (let yes = number_same o q own in cc)), (λ ne. message_got m o i f.wire f.is_in f.passes))

    decision_no_more : (k r : ℕ) → 1 ≤ r →
        (if coordinator n r == q
        then concluding (phase_in w q k r) (has_before w q k r)
        else not (received w q (Dec k r))) ≡ false → NoMore (Dec k r)
    decision_no_more k r first e = go (coordinator n r == q) refl e
      where
        go : (b : Bool) → (coordinator n r == q) ≡ b →
            (if b then concluding (phase_in w q k r) (has_before w q k r) else not (received w q (Dec k r))) ≡ false → NoMore (Dec k r)
        go true is e =
            let own : coordinator n r ≡ q = same_number (coordinator n r) q is in
            elim (phase_false concluding 3 concluding_is k r first e) [
              | inl h ↦ past ((λ _. h), (λ ne. absurd (ne own)))
              | inr s ↦ skipped (own, s)
            ]
        go false is e =
            let f = received_is w run q isq (Dec k r) (not-false (received w q (Dec k r)) e) in
            past
            ((λ own. absurd (let yes = number_same (coordinator n r) q own in cc)), (λ ne. decision_got m k r f.wire f.is_in f.passes))

    not_to : (a b : ℕ) → (a == b) ≡ false → a ≢ b
    not_to a b e same = let yes = number_same a b same in cc

    no_more_of : (c : Carried) → is_of_group n c ≡ true → may_send w q p c ≡ false → NoMore c
    unfolding may_send
    no_more_of (Data o i) known e = message_no_more o i e
    no_more_of (Est k r) known e = elim (and_cases (coordinator n r == p) (has_before w q k r) e) [
      | inl to ↦ elsewhere (not_to (coordinator n r) p to)
      | inr b ↦ elim (before_false k r (round_from k r known) b) [ inl h ↦ past h | inr s ↦ skipped s ]
    ]
    no_more_of (Prop k r) known e =
        elim (and_cases (coordinator n r == q) (choosing (phase_in w q k r) (has_before w q k r)) e) [
          | inl to ↦ elsewhere (not_to (coordinator n r) q to)
          | inr b ↦ elim (phase_false choosing 1 choosing_is k r (round_from k r known) b) [ inl h ↦ past h | inr s ↦ skipped s ]
        ]
    no_more_of (Ack k r) known e =
        elim (and_cases (coordinator n r == p) (replying (phase_in w q k r) (has_before w q k r)) e) [
          | inl to ↦ elsewhere (not_to (coordinator n r) p to)
          | inr b ↦ elim (phase_false replying 2 replying_is k r (round_from k r known) b) [ inl h ↦ past h | inr s ↦ skipped s ]
        ]
    no_more_of (Nack k r) known e =
        elim (and_cases (coordinator n r == p)
        (replying (phase_in w q k r) (has_before w q k r) && not (received w q (Prop k r))) e) [
          | inl to ↦ elsewhere (not_to (coordinator n r) p to)
          | inr both ↦
              elim (and_cases (replying (phase_in w q k r) (has_before w q k r)) (not (received w q (Prop k r))) both) [
                | inl b ↦ elim (phase_false replying 2 replying_is k r (round_from k r known) b) [ inl h ↦ past h | inr s ↦ skipped s ]
                | inr b ↦
                    let f = received_is w run q isq (Prop k r) (not-false (received w q (Prop k r)) b) in
                    proposed (proposal_got m k r f.wire f.is_in f.passes)
              ]
        ]
    no_more_of (Dec k r) known e = decision_no_more k r (round_from k r known) e

of_group : (n : ℕ) (c : Carried) → IsOfGroup n c → is_of_group n c ≡ true
of_group n (Data o i) h = grind (arith, nat_tests)
of_group n _ h = grind (arith, nat_tests)

-- what may not come any more its sender never sends
pub never_comes : (w : Rehearsal) → IsRun w → (p : ℕ) (name : FullName) → may_come w p name ≡ false → IsDone w name.from p name.carried
unfolding may_come
never_comes w run p name e =
    go (is_member n q) refl (is_of_group n name.carried) refl (is_crashed (state_of w) q) refl (may_send w q p name.carried) refl
  where
    n : ℕ
    n = w.setting.members

    q : ℕ
    q = name.from

    go : (a : Bool) → is_member n q ≡ a → (b : Bool) → is_of_group n name.carried ≡ b → (c : Bool) → is_crashed (state_of w) q ≡ c →
        (d : Bool) → may_send w q p name.carried ≡ d → IsDone w name.from p name.carried
    go false out b known c crashed d may = nobody (λ isq. let yes = is_member_of n q isq in cc)
    go true here false known c crashed d may = unknown (λ h. let yes = of_group n name.carried h in cc)
    go true here true known true crashed d may = stopped crashed
    go true here true known false up false may = unable (no_more_of w q (member_is n q here) run p name.carried known may)
    go true here true known false up true may = absurd (cc)
