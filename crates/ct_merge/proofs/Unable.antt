-- What a member sends no more it sends in no step, nor later.
use Rattle.ct_merge.proofs.Common.{◌≡◌, ℕ, zero, suc, ◌<◌, ◌≤◌, ◌⊎◌, Bool, true, false, List, [], ◌∷◌, Some, inl, inr, refl, sym, ap, subst}
use Rattle.ct_merge.proofs.Common.{arith, is_some, ◌+◌, length, ◌∙◌, if◌then◌else◌, slice_get, nat_tests, coordinator, IsMember, IsIn}
use Rattle.ct_merge.proofs.Common.{Value, Envelope, Mail, Standing, Turn, Wire, Outcome, own_ballots, row, turn_at, turned, next, is_gather}
use Rattle.ct_merge.proofs.Common.{decided, Setting, Member, State, member, submissions, envelopes, All, Nobody, One, Move, Adopt, Choose}
use Rattle.ct_merge.proofs.Common.{Conclude, Enter, Suspect, Step, some-none, some-same, Holds, Carries, carries-mail, get-wire, adopt-is}
use Rattle.ct_merge.proofs.Common.{choose-is, conclude-is, enter-is, suspect-is, by_shape, carried_of, Carried, Data, Est, Prop, Ack, Nack}
use Rattle.ct_merge.proofs.Common.{Dec, letter, Sends, IsPast, SendsNoMore, SkipsRound, elsewhere, past, proposed, skipped, actor}
use Rattle.ct_merge.proofs.Common.{KnowsMessages, Rehearsal, extended, state_of, p_or_other, IsStep, next-is, Moment, own, IsRun}
use Rattle.std.proofs.Common.{filter_map}
use Rattle.ct_model.specs.Next.{is_relayed}
use Rattle.ct_model.specs.Received.{ballots, head, proposal, proposal_of}
use Rattle.ct_model.proofs.Consensus.Facts.{member_is}
use Rattle.ct_merge.specs.Unable.{GoesElsewhere, IsSkipped, IsWithoutNack}
use Rattle.ct_merge.proofs.Past.{IsOn, decision_on, past_on, relayed_decision, sends_once}
use Rattle.ct_merge.proofs.Local.{outcome_is}
use Rattle.ct_merge.proofs.Moments.{IsPlaced, get_there, no_own, own_cases, placed}
use Rattle.ct_merge.proofs.Running.{by_steps, known, state_next}
use Rattle.ct_merge.proofs.Sameness.{below_or_not}
use Rattle.ct_merge.proofs.SentOnce.{count_mine, count_theirs, member_mine, member_theirs, past_not, stepping}
use Rattle.ct_names.proofs.Lists
use Rattle.ct_model.specs.declared.wire.Wire.TheVariants as wire
use Rattle.ct_model.proofs.Consensus.Readings

-- ---- to whom a mail goes

-- the mail brings p the wire
abbrev pub GoesTo : Mail → ℕ → Wire → Type 0
GoesTo Nobody p x = ⊥
GoesTo (One to w) p x = (to ≡ p) × (x ≡ w)
GoesTo (All w) p x = x ≡ w

pub goes_to : (n : ℕ) (mail : Mail) (i p : ℕ) (x : Wire) → slice_get (envelopes n mail) i ≡ Some (letter p x) → GoesTo mail p x
goes_to n Nobody i p x e = some-none (letter p x) e
goes_to n (One to w) zero p x e =
    let same = some-same _ (letter p x) e in (ap (λ (y : Envelope). y.to) same, sym (ap (λ (y : Envelope). y.wire) same))
goes_to n (One to w) (suc i) p x e = some-none (letter p x) e
goes_to n (All w) i p x e = carries-mail n (All w) x (get-wire (envelopes n (All w)) i (letter p x) e)

pub goes_carries : (mail : Mail) (p : ℕ) (x : Wire) → GoesTo mail p x → Carries mail x
goes_carries (One to w) p x g = g.1
goes_carries _ p x g = g

-- ---- why a step sends what it sends

-- it is of the round in which the member is
pub record IsOfRound (m : Member) (k r : ℕ) : Type 0 where
  pub standing : Standing
  pub is_open : m.current ≡ Some standing
  pub instance : k ≡ m.last
  pub round : r ≡ standing.round

-- why q, this member of a group of n, sends it to p
abbrev pub IsSentFor : ℕ → ℕ → ℕ → Member → Carried → Type 0
IsSentFor n q p m (Data o i) = Unit {0}
IsSentFor n q p m (Est k r) = (coordinator n r ≡ p) × (k ≡ m.last) × (is_some (decided m.got m.last) ≡ false)
IsSentFor n q p m (Prop k r) = (coordinator n r ≡ q) × IsOfRound m k r
IsSentFor n q p m (Ack k r) = (coordinator n r ≡ p) × IsOfRound m k r
IsSentFor n q p m (Nack k r) = (coordinator n r ≡ p) × IsOfRound m k r × (is_some (ballots m.got k r).proposal ≡ false)
IsSentFor n q p m (Dec k r) = coordinator n r ≡ q → IsOfRound m k r

abbrev SentFor : ℕ → ℕ → Member → Mail → Type 0
SentFor n q m mail = (p : ℕ) (x : Wire) → GoesTo mail p x → IsSentFor n q p m (carried_of x)

module _ (n q : ℕ) (m : Member) (c : Standing) (open_at : m.current ≡ Some c) where
  of_round : IsOfRound m m.last c.round
  of_round = record { standing = c; is_open = open_at; instance = refl; round = refl }

  concludes : (majority : Bool) → SentFor n q m (if majority then All (wire.Dec m.last c.round c.estimate) else Nobody)
  concludes true p x g = subst (λ z. IsSentFor n q p m (carried_of z)) (sym g) (λ e. of_round)
  concludes false p x g = absurd g

  turn_for : (is_gather c.phase ≡ true → coordinator n c.round ≡ q) → (a : Move) (t : Turn) → turn_at n q m a c ≡ Some t →
      SentFor n q m t.mail
  turn_for own Enter t h =
      let f = enter-is n q m.last (decided m.got m.last) c t h in
      subst (λ (y : Turn). SentFor n q m y.mail) f.gives (λ p x g.
      subst (λ z. IsSentFor n q p m (carried_of z)) (sym g.1) (g.0, refl, f.undecided))
  turn_for own (Choose from) t h =
      let f = choose-is n m.last (own_ballots m c) c from t h in
      subst (λ (y : Turn). SentFor n q m y.mail) f.gives (λ p x g.
      subst (λ z. IsSentFor n q p m (carried_of z)) (sym g) (own f.gathers, of_round))
  turn_for own Adopt t h =
      let f = adopt-is n q m.last (own_ballots m c) c t h in
      subst (λ (y : Turn). SentFor n q m y.mail) f.gives (λ p x g.
      subst (λ z. IsSentFor n q p m (carried_of z)) (sym g.1) (g.0, of_round))
  turn_for own Suspect t h =
      let f = suspect-is n q m.last (own_ballots m c) c t h in
      subst (λ (y : Turn). SentFor n q m y.mail) f.gives (λ p x g.
      subst (λ z. IsSentFor n q p m (carried_of z)) (sym g.1) (g.0, of_round, f.no_proposal))
  turn_for own Conclude t h =
      let f = conclude-is n m.last (own_ballots m c) c t h in
      subst (λ (y : Turn). SentFor n q m y.mail) f.gives (concludes _)

  -- the round after a turn is the same, unless the instance has no decision
  turn_round : (a : Move) (t : Turn) → turn_at n q m a c ≡ Some t →
      ((t.after).round ≡ c.round) ⊎ (is_some (decided m.got m.last) ≡ false)
  turn_round Enter t h = inr (enter-is n q m.last (decided m.got m.last) c t h).undecided
  turn_round (Choose from) t h = inl (ap (λ (y : Turn). (y.after).round) (sym (choose-is n m.last (own_ballots m c) c from t h).gives))
  turn_round Adopt t h = inl (ap (λ (y : Turn). (y.after).round) (sym (adopt-is n q m.last (own_ballots m c) c t h).gives))
  turn_round Suspect t h = inl (ap (λ (y : Turn). (y.after).round) (sym (suspect-is n q m.last (own_ballots m c) c t h).gives))
  turn_round Conclude t h = inl (ap (λ (y : Turn). (y.after).round) (sym (conclude-is n m.last (own_ballots m c) c t h).gives))

relayed_for : (s : Setting) (q p : ℕ) (m : Member) (w : Wire) → is_relayed s q m.got w ≡ true → IsSentFor s.members q p m (carried_of w)
unfolding is_relayed
relayed_for s q p m (wire.Data x) h = tt
relayed_for s q p m (wire.Dec k r v) h = λ e. absurd ((relayed_decision s q m.got k r v h).1 e)
relayed_for s q p m _ h = absurd (cc)

gets_for : (s : Setting) (q : ℕ) (m : Member) (w : Wire) (b : Bool) → is_relayed s q m.got w ≡ b →
    SentFor s.members q m (if b then All w else Nobody)
gets_for s q m w true relayed p x g = subst (λ z. IsSentFor s.members q p m (carried_of z)) (sym g) (relayed_for s q p m w relayed)
gets_for s q m w false relayed p x g = absurd g

pub sent_for : (s : Setting) (g : State) (q : ℕ) → Holds s g → IsMember s.members q → (step : Step) (o : Outcome) →
    row s g q (member g q) step ≡ Some o → SentFor s.members q (member g q) o.mail
sent_for s g q holds is step o =
    by_shape s g q (member g q) (λ (o : Outcome). SentFor s.members q (member g q) o.mail) step o (record {
      submits = λ c good p x e. subst (λ z. IsSentFor s.members q p (member g q) (carried_of z)) (sym e) tt;
      gets = λ k w at. gets_for s q (member g q) w (is_relayed s q (member g q).got w) refl;
      opens = λ idle some p x e. absurd e;
      turns = λ a c t open_at taken.
          turn_for s.members q (member g q) c open_at (holds.sound q is c open_at).gathers a t taken;
      closes = λ c v open_at has delivers p x e. absurd e;
      follows = λ v idle has delivers p x e. absurd e;
      marks = λ crashed p x e. absurd e;
    })

-- ---- what is sent no more

head_of : {A : Type 0} (xs : List A) (x : A) → IsIn x xs → is_some (head xs) ≡ true
head_of [] x h = absurd h
head_of (y ∷ xs) x h = refl

proposal_there : (got : List Wire) (k r : ℕ) (v : Value) → IsIn (wire.Prop k r v) got → is_some (ballots got k r).proposal ≡ true
unfolding ballots proposal
proposal_there got k r v h =
    head_of (filter_map (proposal_of k r) got) v
    (Lists.IsIn-filter_map (proposal_of k r) (wire.Prop k r v) v got (grind (arith, nat_tests)) h)

decided_there : (m : Member) (k r : ℕ) → SkipsRound m k r → is_some (decided m.got k) ≡ true
decided_there m k r h =
    let d = Readings.got-decided m.got k h.round (h.decision).value (h.decision).is_in in
    ap is_some d.1

not_of_round : (m : Member) (k r : ℕ) → SkipsRound m k r → IsOfRound m k r → ⊥
not_of_round m k r h f =
    let low : (f.standing).round < r = h.before f.instance f.standing f.is_open in
    let same : r ≡ (f.standing).round = f.round in
    omega (arith, low, same)

no_skipped : (n q p : ℕ) (m : Member) (c : Carried) → IsSkipped n q m c → IsSentFor n q p m c → ⊥
no_skipped n q p m (Data o i) h f = h
no_skipped n q p m (Est k r) h f =
    let has : is_some (decided m.got m.last) ≡ true = subst (λ k. is_some (decided m.got k) ≡ true) f.1 (decided_there m k r h) in
    let none : is_some (decided m.got m.last) ≡ false = f.2 in
    cc
no_skipped n q p m (Prop k r) h f = not_of_round m k r h f.1
no_skipped n q p m (Ack k r) h f = not_of_round m k r h f.1
no_skipped n q p m (Nack k r) h f = not_of_round m k r h f.1
no_skipped n q p m (Dec k r) h f = not_of_round m k r h.1 (f h.0)

no_elsewhere : (n q p : ℕ) (m : Member) (c : Carried) → GoesElsewhere n q p c → IsSentFor n q p m c → ⊥
no_elsewhere n q p m (Data o i) h f = h
no_elsewhere n q p m (Dec k r) h f = h
no_elsewhere n q p m _ h f = h f.0

no_nack : (n q p : ℕ) (m : Member) (c : Carried) → IsWithoutNack m c → IsSentFor n q p m c → ⊥
no_nack n q p m (Nack k r) h f =
    let has : is_some (ballots m.got k r).proposal ≡ true = proposal_there m.got k r h.value h.is_in in
    let none : is_some (ballots m.got k r).proposal ≡ false = f.2 in
    cc
no_nack n q p m _ h f = h

pub no_more : (n q p : ℕ) (m : Member) (count : ℕ) (c : Carried) → SendsNoMore n q p m count c → IsSentFor n q p m c →
    (IsPast n q m count c → ⊥) → ⊥
no_more n q p m count c (past h) f fresh = fresh h
no_more n q p m count c (elsewhere h) f fresh = no_elsewhere n q p m c h f
no_more n q p m count c (skipped h) f fresh = no_skipped n q p m c h f
no_more n q p m count c (proposed h) f fresh = no_nack n q p m c h f

-- ---- it stays so

abbrev Skipping : Member → Member → Type 0
Skipping m o = (k r : ℕ) → SkipsRound m k r → k ≡ o.last → (c : Standing) → o.current ≡ Some c → c.round < r

turn_skips : (n q : ℕ) (m : Member) (c : Standing) → m.current ≡ Some c → (a : Move) (t : Turn) → turn_at n q m a c ≡ Some t →
    Skipping m (turned m t).member
turn_skips n q m c open_at a t taken k r h e x at = elim (turn_round n q m c open_at a t taken) [
  | inl same ↦
      let low : c.round < r = h.before e c open_at in
      let is : (t.after).round ≡ x.round = ap (λ (y : Standing). y.round) (some-same t.after x at) in
      omega (arith, low, same, is)
  | inr none ↦
      let has : is_some (decided m.got m.last) ≡ true = subst (λ k. is_some (decided m.got k) ≡ true) e (decided_there m k r h) in
      absurd (cc)
]

pub skips_on : (s : Setting) (g : State) (q : ℕ) (step : Step) (o : Outcome) → row s g q (member g q) step ≡ Some o →
    Skipping (member g q) o.member
skips_on s g q step o =
    by_shape s g q (member g q) (λ (o : Outcome). Skipping (member g q) o.member) step o (record {
      submits = λ c good k r h. h.before;
      gets = λ i w at k r h. h.before;
      opens = λ idle some k r h e c at.
          let first : 1 ≤ r = h.first in
          let round : 0 ≡ c.round = ap (λ (y : Standing). y.round) (some-same _ c at) in
          omega (arith, first, round);
      turns = λ a c t open_at taken. turn_skips s.members q (member g q) c open_at a t taken;
      closes = λ c v open_at has delivers k r h e x at. some-none x at;
      follows = λ v idle has delivers k r h e x at. some-none x at;
      marks = λ crashed k r h. h.before;
    })

module _ (n q p : ℕ) (m o : Member) (a b : ℕ) (on : IsOn m o) (more : a ≤ b) (skips : Skipping m o) where
  round_on : (k r : ℕ) → SkipsRound m k r → SkipsRound o k r
  round_on k r h = record { first = h.first; round = h.round; decision = decision_on m o on k h.round h.decision; before = skips k r h }

  skipped_on : (c : Carried) → IsSkipped n q m c → IsSkipped n q o c
  skipped_on (Data x i) h = h
  skipped_on (Dec k r) h = (h.0, round_on k r h.1)
  skipped_on _ h = round_on _ _ h

  proposed_on : (c : Carried) → IsWithoutNack m c → IsWithoutNack o c
  proposed_on (Nack k r) h = record { value = h.value; is_in = on.got (wire.Prop k r h.value) h.is_in }
  proposed_on _ h = h

  pub no_more_on : (c : Carried) → SendsNoMore n q p m a c → SendsNoMore n q p o b c
  no_more_on c (past h) = past (past_on n q m o a b on more c h)
  no_more_on c (elsewhere h) = elsewhere h
  no_more_on c (skipped h) = skipped (skipped_on c h)
  no_more_on c (proposed h) = proposed (proposed_on c h)

-- q sends this to p no more
abbrev pub NoMoreIn : Setting → State → ℕ → ℕ → Carried → Type 0
NoMoreIn s g q p c = SendsNoMore s.members q p (member g q) (submissions g.submitted q) c

-- ---- one step

module _ (s : Setting) (g : State) (step : Step) (h : State) (t : IsStep s g step h) (holds : Holds s g) (knows : KnowsMessages s g) where
  is : IsMember s.members (actor step)
  is = member_is s.members (actor step) t.in_group

  mine_on : (p : ℕ) (c : Carried) → NoMoreIn s g (actor step) p c → NoMoreIn s h (actor step) p c
  mine_on p c old =
      let q : ℕ = actor step in
      let count : ℕ = submissions g.submitted q in
      let on = (sends_once s g q knows holds is step t.outcome t.row (count + length (t.outcome).submitted) refl).on in
      let low : count ≤ count + length (t.outcome).submitted = omega arith in
      subst (λ m. SendsNoMore s.members q p m (submissions h.submitted q) c) (sym (member_mine s g step h t holds knows))
      (subst (λ k. SendsNoMore s.members q p (t.outcome).member k c) (sym (count_mine s g step h t holds knows))
      (no_more_on s.members q p (member g q) (t.outcome).member count (count + length (t.outcome).submitted) on low
      (skips_on s g q step t.outcome t.row) c old))

  -- it stays so
  no_more_kept : (q p : ℕ) → IsMember s.members q → (c : Carried) → NoMoreIn s g q p c → NoMoreIn s h q p c
  no_more_kept q p isq c old = elim (p_or_other q (actor step)) [
    | inl same ↦ subst (λ x. NoMoreIn s h x p c) (sym same) (mine_on p c (subst (λ x. NoMoreIn s g x p c) same old))
    | inr ne ↦
        subst (λ m. SendsNoMore s.members q p m (submissions h.submitted q) c) (sym (member_theirs s g step h t holds knows q isq ne))
        (subst (λ k. SendsNoMore s.members q p (member g q) k c) (sym (count_theirs s g step h t holds knows q ne)) old)
  ]

  -- the step doesn't send it
  no_more_not : (p : ℕ) (x : Wire) → GoesTo (t.outcome).mail p x → NoMoreIn s g (actor step) p (carried_of x) → ⊥
  no_more_not p x goes old =
      let q : ℕ = actor step in
      no_more s.members q p (member g q) (submissions g.submitted q) (carried_of x) old
      (sent_for s g q holds is step t.outcome t.row p x goes)
      (past_not s g step h t holds knows x (goes_carries (t.outcome).mail p x goes))

-- ---- every run

NoMoreOn : Rehearsal → Type 0
NoMoreOn w = (q p i : ℕ) (m : Moment) (c : Carried) → IsMember w.setting.members q → slice_get (own w q) i ≡ Some m →
    NoMoreIn w.setting (state_of m.before) q p c → NoMoreIn w.setting (state_of w) q p c

no_more_step : (w : Rehearsal) (step : Step) (h : State) → IsRun w → next w.setting (state_of w) step ≡ Some h → NoMoreOn w →
    NoMoreOn (extended w step)
unfolding NoMoreOn
no_more_step w step h r e old q p i m c isq there before =
    let facts = known w r in
    let now : NoMoreIn w.setting (state_of w) q p c = elim (own_cases w step q i m there) [
      | inl a ↦ old q p i m c isq a before
      | inr b ↦ subst (λ (x : Moment). NoMoreIn w.setting (state_of x.before) q p c) b.is before
    ] in
    subst (λ x. NoMoreIn w.setting x q p c) (sym (state_next w step h e))
    (no_more_kept w.setting (state_of w) step h (stepping w step h r e) facts.holds facts.knows q p isq c now)

-- what a member sends no more at an own step it sends no more later
no_more_run : (w : Rehearsal) → IsRun w → NoMoreOn w
unfolding NoMoreOn
no_more_run = by_steps NoMoreOn
    (λ s cells q p i m c isq there before. some-none m (sym (ap (λ l. slice_get l i) (no_own s cells q)) ∙ there)) no_more_step

-- so none that is no earlier sends it
pub no_more_sends : (w : Rehearsal) → IsRun w → (q i j : ℕ) (m n : Moment) (p : ℕ) (x : Wire) → IsMember w.setting.members q →
    slice_get (own w q) i ≡ Some m → slice_get (own w q) j ≡ Some n → i ≤ j →
    NoMoreIn w.setting (state_of m.before) q p (carried_of x) → Sends n p x → ⊥
unfolding NoMoreOn
no_more_sends w r q i j m n p x isq there also low before sends =
    let f = placed w r q j n also in
    let s : Setting = n.before.setting in
    let t = next-is s (state_of n.before) n.step f.state f.enabled in
    let facts = known n.before f.run in
    let same : (sends.outcome) ≡ t.outcome =
    some-same sends.outcome t.outcome (sym sends.is ∙ outcome_is s (state_of n.before) n.step f.state t) in
    let goes : GoesTo (t.outcome).mail p x =
    subst (λ (o : Outcome). GoesTo o.mail p x) same (goes_to s.members (sends.outcome).mail sends.place p x sends.there) in
    no_more_not s (state_of n.before) n.step f.state t facts.holds facts.knows p x goes
    (subst (λ z. NoMoreIn s (state_of n.before) z p (carried_of x)) (sym f.actor)
    (subst (λ (z : Setting). NoMoreIn z (state_of n.before) q p (carried_of x)) (sym f.setting) (now f)))
  where
    now : IsPlaced w q j n → NoMoreIn w.setting (state_of n.before) q p (carried_of x)
    now f = elim (below_or_not i j) [
      | inl less ↦
          let z = get_there (own n.before q) i (let count : length (own n.before q) ≡ j = f.count in omega arith) in
          let same : z.0 ≡ m = some-same z.0 m (sym (f.earlier q i z.0 z.1) ∙ there) in
          let before : NoMoreIn n.before.setting (state_of (z.0).before) q p (carried_of x) =
          subst (λ (s : Setting). NoMoreIn s (state_of (z.0).before) q p (carried_of x)) (sym f.setting)
          (subst (λ (y : Moment). NoMoreIn w.setting (state_of y.before) q p (carried_of x)) (sym same) before) in
          subst (λ (s : Setting). NoMoreIn s (state_of n.before) q p (carried_of x)) f.setting
          (no_more_run n.before f.run q p i z.0 (carried_of x)
          (subst (λ (s : Setting). IsMember s.members q) (sym f.setting) isq) z.1 before)
      | inr more ↦
          let at_once : i ≡ j = omega arith in
          let same : m ≡ n = some-same m n (sym there ∙ (ap (λ i. slice_get (own w q) i) at_once ∙ also)) in
          subst (λ (y : Moment). NoMoreIn w.setting (state_of y.before) q p (carried_of x)) same before
    ]
