-- No two envelopes have one sender, one receiver and one name.
use Rattle.ct_merge.proofs.Common.{◌≡◌, ◌≢◌, ℕ, zero, suc, ◌+◌, ◌<◌, List, [], ◌∷◌, ◌++◌, Some, length, map, inl, inr, ◌⊎◌, Bool, refl, sym}
use Rattle.ct_merge.proofs.Common.{ap, ◌∙◌, subst, arith, replicate, slice_get, if◌then◌else◌, ◌==◌, nat_tests, IsMember, counting, actor}
use Rattle.ct_merge.proofs.Common.{Wire, Envelope, Mail, KnowsMessages, Outcome, row, next, Rehearsal, state_of, empty, extended, senders}
use Rattle.ct_merge.proofs.Common.{Setting, State, member, submissions, at_serial, envelopes, Nobody, One, All, Step, some-same, some-none}
use Rattle.ct_merge.proofs.Common.{Holds, Carries, carries-mail, get-wire, member-same, member-other, p_or_other, state-first, IsStep}
use Rattle.ct_merge.proofs.Common.{next-is, history-run, by_shape, carried_of, IsPast, IsRun, IsNamed, Carried, FullName}
use Rattle.ct_names.specs.Group.{members}
use Rattle.ct_model.specs.State.{first_state}
use Rattle.ct_model.proofs.Consensus.Facts.{member_is}
use Rattle.ct_model.proofs.Record.Frame.{after-sent, after-submitted, submissions-append, submissions-next, submissions-none}
use Rattle.ct_merge.proofs.Past.{SendsOnce, past_on, sends_once}
use Rattle.ct_merge.proofs.Telling.{IsReceipt, receipt_named}
use Rattle.ct_merge.proofs.Running.{IsKnown, known, by_steps, state_next, senders_next}

-- ---- one step

-- the messages that a step submits are its member's
submits_own : (s : Setting) (g : State) (p : ℕ) (step : Step) (o : Outcome) → row s g p (member g p) step ≡ Some o → (q : ℕ) →
    submissions o.submitted q ≡ (if p == q then length o.submitted else 0)
submits_own s g p step o =
    by_shape s g p (member g p) (λ o. (q : ℕ) → submissions o.submitted q ≡ (if p == q then length o.submitted else 0)) step o (record {
      submits = λ c good q. submissions-next g.submitted p q c;
      gets = λ k w at q. silent q (p == q);
      opens = λ idle some q. silent q (p == q);
      turns = λ a c t open_at taken q. silent q (p == q);
      closes = λ c v open_at has delivers q. silent q (p == q);
      follows = λ v idle has delivers q. silent q (p == q);
      marks = λ crashed q. silent q (p == q);
    })
  where
    silent : (q : ℕ) (b : Bool) → submissions [] q ≡ (if b then 0 else 0)
    silent q b = submissions-none q ∙ grind arith

-- p has sent this or can't send it any more
abbrev pub PastIn : Setting → State → ℕ → Carried → Type 0
PastIn s g p c = IsPast s.members p (member g p) (submissions g.submitted p) c

module _ (s : Setting) (g : State) (step : Step) (h : State) (t : IsStep s g step h) (holds : Holds s g) (knows : KnowsMessages s g) where
  abbrev p : ℕ
  p = actor step

  is : IsMember s.members (actor step)
  is = member_is s.members (actor step) t.in_group

  pub counted : (q : ℕ) → submissions h.submitted q
      ≡ submissions g.submitted q + (if actor step == q then length (t.outcome).submitted else 0)
  counted q =
      ap (λ (x : State). submissions x.submitted q) (sym t.gives)
      ∙ (ap (λ l. submissions l q) (after-submitted s g p t.outcome)
      ∙ (submissions-append g.submitted (t.outcome).submitted q
      ∙ ap (λ n. submissions g.submitted q + n) (submits_own s g p step t.outcome t.row q)))

  once : SendsOnce s.members p (member g p) (submissions g.submitted p) (t.outcome).member
      (submissions g.submitted p + length (t.outcome).submitted) (t.outcome).mail
  once = sends_once s g p knows holds is step t.outcome t.row (submissions g.submitted p + length (t.outcome).submitted) refl

  pub member_mine : member h p ≡ (t.outcome).member
  member_mine = ap (λ x. member x p) (sym t.gives) ∙ member-same s g p t.outcome holds is

  pub member_theirs : (q : ℕ) → IsMember s.members q → q ≢ p → member h q ≡ member g q
  member_theirs q isq ne = ap (λ x. member x q) (sym t.gives) ∙ member-other s g p q t.outcome is isq ne

  pub count_mine : submissions h.submitted p ≡ submissions g.submitted p + length (t.outcome).submitted
  count_mine = counted p ∙ grind (arith, nat_tests)

  pub count_theirs : (q : ℕ) → q ≢ p → submissions h.submitted q ≡ submissions g.submitted q
  count_theirs q ne = counted q ∙ grind (arith, nat_tests)

  -- as p is after the step
  mine : (c : Carried) → IsPast s.members p (t.outcome).member (submissions g.submitted p + length (t.outcome).submitted) c →
      PastIn s h p c
  mine c now =
      subst (λ m. IsPast s.members p m (submissions h.submitted p) c) (sym member_mine)
      (subst (λ k. IsPast s.members p (t.outcome).member k c) (sym count_mine) now)

  -- what was behind a member stays so
  pub past_kept : (q : ℕ) → IsMember s.members q → (c : Carried) → PastIn s g q c → PastIn s h q c
  past_kept q isq c old = elim (p_or_other q p) [
    | inl same ↦
        subst (λ x. PastIn s h x c) (sym same) (mine c (past_on s.members p (member g p) (t.outcome).member (submissions g.submitted p)
        (submissions g.submitted p + length (t.outcome).submitted) once.on (omega arith) c (subst (λ x. PastIn s g x c) same old)))
    | inr ne ↦
        subst (λ m. IsPast s.members q m (submissions h.submitted q) c) (sym (member_theirs q isq ne))
        (subst (λ k. IsPast s.members q (member g q) k c) (sym (count_theirs q ne)) old)
  ]

  -- what the step sends was not behind its member, and is so then
  pub past_not : (x : Wire) → Carries (t.outcome).mail x → PastIn s g p (carried_of x) → ⊥
  past_not x c old = once.fresh x c old

  pub past_now : (x : Wire) → Carries (t.outcome).mail x → PastIn s h p (carried_of x)
  past_now x c = mine (carried_of x) (once.past x c)

-- ---- places

-- a place of two lists is one of the first or one of the second
pub get_cases : {A : Type 0} (xs ys : List A) (i : ℕ) (x : A) → slice_get (xs ++ ys) i ≡ Some x →
    ((i < length xs) × (slice_get xs i ≡ Some x)) ⊎ ((j : ℕ) × (i ≡ length xs + j) × (slice_get ys j ≡ Some x))
get_cases [] ys i x e = inr (i, omega arith, e)
get_cases (y ∷ xs) ys zero x e = inl (omega arith, e)
get_cases (y ∷ xs) ys (suc i) x e = elim (get_cases xs ys i x e) [
  | inl a ↦ inl (let low : i < length xs = a.0 in omega arith, a.1)
  | inr b ↦ inr (b.0, (let at : i ≡ length xs + b.0 = b.1 in omega arith), b.2)
]

get_same : (n i x y : ℕ) → slice_get (replicate n x) i ≡ Some y → y ≡ x
get_same zero i x y e = some-none y e
get_same (suc n) zero x y e = sym (some-same x y e)
get_same (suc n) (suc i) x y e = get_same n i x y e

-- the place of an envelope to each says to whom it goes
get_to : (w : Wire) (first more i : ℕ) (e : Envelope) →
    slice_get (map (λ t. let e : Envelope = record { to = t; wire = w } in e) (counting first more)) i ≡ Some e → e.to ≡ first + i
get_to w first zero i e at = some-none e at
get_to w first (suc more) zero e at = let same = ap (λ (x : Envelope). x.to) (some-same _ e at) in omega arith
get_to w first (suc more) (suc i) e at = let more_on = get_to w (first + 1) more i e at in omega arith

-- a step sends each receiver one envelope
pub one_each : (n : ℕ) (mail : Mail) (i j : ℕ) (e f : Envelope) → slice_get (envelopes n mail) i ≡ Some e →
    slice_get (envelopes n mail) j ≡ Some f → e.to ≡ f.to → i ≡ j
unfolding members
one_each n Nobody i j e f a b same = some-none e a
one_each n (One to w) zero zero e f a b same = refl
one_each n (One to w) (suc i) j e f a b same = some-none e a
one_each n (One to w) zero (suc j) e f a b same = some-none f b
one_each n (All w) i j e f a b same =
    let one : e.to ≡ 1 + i = get_to w 1 n i e a in
    let other : f.to ≡ 1 + j = get_to w 1 n j f b in
    omega arith

-- ---- what a step adds to what is named

module _ (w : Rehearsal) (step : Step) (h : State) (r : IsRun w) (e : next w.setting (state_of w) step ≡ Some h) where
  abbrev g : State
  g = state_of w

  abbrev s : Setting
  s = w.setting

  pub stepping : IsStep w.setting (state_of w) step h
  stepping = next-is w.setting (state_of w) step h e

  pub sent_more : (state_of (extended w step)).sent ≡ (state_of w).sent ++ envelopes w.setting.members (stepping.outcome).mail
  sent_more =
      ap (λ (x : State). x.sent) (state_next w step h e ∙ sym stepping.gives)
      ∙ after-sent w.setting (state_of w) (actor step) stepping.outcome

  -- the serial is that of an envelope that the step sends
  pub record IsNew (p q : ℕ) (c : Carried) (k : ℕ) : Type 0 where
    pub mine : p ≡ actor step
    pub place : ℕ
    pub serial : k ≡ suc (length (state_of w).sent + place)
    pub envelope : Envelope
    pub there : slice_get (envelopes w.setting.members (stepping.outcome).mail) place ≡ Some envelope
    pub to : envelope.to ≡ q
    pub carried : carried_of envelope.wire ≡ c

  from_cases : (p i : ℕ) (more : List ℕ) → senders s (w.steps ++ step ∷ []) ≡ senders s w.steps ++ more →
      slice_get (senders s (w.steps ++ step ∷ [])) i ≡ Some p →
      ((i < length g.sent) × (slice_get (senders s w.steps) i ≡ Some p))
      ⊎ ((j : ℕ) × (i ≡ length g.sent + j) × (slice_get more j ≡ Some p))
  from_cases p i more are at =
      let same : length (senders s w.steps) ≡ length g.sent = (history-run s w.steps g r).count in
      elim (get_cases (senders s w.steps) more i p (sym (ap (λ l. slice_get l i) are) ∙ at)) [
        | inl a ↦ inl ((let low : i < length (senders s w.steps) = a.0 in omega arith), a.1)
        | inr b ↦ inr (b.0, (let at : i ≡ length (senders s w.steps) + b.0 = b.1 in omega arith), b.2)
      ]

  -- what is named after the step was named before it, or the step sends it
  pub named_cases : (p q : ℕ) (c : Carried) (k : ℕ) → IsNamed (extended w step) p q c k → IsNamed w p q c k ⊎ IsNew p q c k
  named_cases p q c zero f = some-none f.envelope f.there
  named_cases p q c (suc i) f =
      let there : slice_get (g.sent ++ envelopes s.members (stepping.outcome).mail) i ≡ Some f.envelope =
      sym (ap (λ l. slice_get l i) sent_more) ∙ f.there in
      elim (get_cases g.sent (envelopes s.members (stepping.outcome).mail) i f.envelope there) [
        | inl a ↦ elim (from_cases p i _ (senders_next w step h r e) f.from) [
          | inl b ↦ inl (record { envelope = f.envelope; there = a.1; to = f.to; carried = f.carried; from = b.1 })
          | inr b ↦ absurd (let low : i < length g.sent = a.0 in let at : i ≡ length g.sent + b.0 = b.1 in omega arith)
        ]
        | inr a ↦ elim (from_cases p i _ (senders_next w step h r e) f.from) [
          | inl b ↦ absurd (let low : i < length g.sent = b.0 in let at : i ≡ length g.sent + a.0 = a.1 in omega arith)
          | inr b ↦ inr (record {
            mine = get_same _ b.0 (actor step) p b.2;
            place = a.0;
            serial = ap suc a.1;
            envelope = f.envelope;
            there = a.2;
            to = f.to;
            carried = f.carried;
          })
        ]
      ]

  -- the step's mail carries what is new
  pub new_carries : (p q : ℕ) (c : Carried) (k : ℕ) (f : IsNew p q c k) → Carries (stepping.outcome).mail (f.envelope).wire
  new_carries p q c k f =
      carries-mail s.members (stepping.outcome).mail (f.envelope).wire
      (get-wire (envelopes s.members (stepping.outcome).mail) f.place f.envelope f.there)

-- ---- every run

-- what is named is behind its sender, a member, and has one serial
record IsOnce (w : Rehearsal) : Type 0 where
  pub past : (p q : ℕ) (c : Carried) (k : ℕ) → IsNamed w p q c k → IsMember w.setting.members p × PastIn w.setting (state_of w) p c
  pub one : (p q : ℕ) (c : Carried) (j k : ℕ) → IsNamed w p q c j → IsNamed w p q c k → j ≡ k

pub none_named : (s : Setting) (cells p q : ℕ) (c : Carried) (k : ℕ) → IsNamed (empty s cells) p q c k → ⊥
unfolding first_state
none_named s cells p q c k f = nothing k (sym (ap (λ (x : State). at_serial x.sent k) (state-first s cells)) ∙ f.there)
  where
    nothing : (k : ℕ) → at_serial [] k ≡ Some f.envelope → ⊥
    nothing zero e = some-none f.envelope e
    nothing (suc i) e = some-none f.envelope e

module _ (w : Rehearsal) (step : Step) (h : State) (r : IsRun w) (e : next w.setting (state_of w) step ≡ Some h) (old : IsOnce w) where
  abbrev longer : Rehearsal
  longer = extended w step

  facts : IsKnown w
  facts = known w r

  -- at the state after the step
  past_there : (p : ℕ) (c : Carried) → PastIn w.setting h p c → PastIn w.setting (state_of longer) p c
  past_there p c = subst (λ x. PastIn w.setting x p c) (sym (state_next w step h e))

  past_old : (p q : ℕ) (c : Carried) (k : ℕ) → IsNamed w p q c k →
      IsMember w.setting.members p × PastIn w.setting (state_of longer) p c
  past_old p q c k f =
      let before = old.past p q c k f in
      let t = stepping w step h r e in
      (before.0, past_there p c (past_kept w.setting (state_of w) step h t facts.holds facts.knows p before.0 c before.1))

  past_new : (p q : ℕ) (c : Carried) (k : ℕ) → IsNew w step h r e p q c k →
      IsMember w.setting.members p × PastIn w.setting (state_of longer) p c
  past_new p q c k f =
      let t = stepping w step h r e in
      let now = past_now w.setting (state_of w) step h t facts.holds facts.knows (f.envelope).wire (new_carries w step h r e p q c k f) in (
        subst (λ x. IsMember w.setting.members x) (sym f.mine) (member_is w.setting.members (actor step) t.in_group),
        past_there p c (subst (λ x. PastIn w.setting h x c) (sym f.mine)
            (subst (λ x. PastIn w.setting h (actor step) x) f.carried now)),
      )

  -- what was named before is not sent again
  not_again : (p q : ℕ) (c : Carried) (j k : ℕ) → IsNamed w p q c j → IsNew w step h r e p q c k → ⊥
  not_again p q c j k f new =
      let before = (old.past p q c j f).1 in
      let again : PastIn w.setting (state_of w) (actor step) (carried_of (new.envelope).wire) =
      subst (λ x. PastIn w.setting (state_of w) (actor step) x) (sym new.carried)
      (subst (λ x. PastIn w.setting (state_of w) x c) new.mine before) in
      past_not w.setting (state_of w) step h (stepping w step h r e) facts.holds facts.knows (new.envelope).wire
      (new_carries w step h r e p q c k new) again

  one_new : (p q : ℕ) (c : Carried) (j k : ℕ) → IsNew w step h r e p q c j → IsNew w step h r e p q c k → j ≡ k
  one_new p q c j k a b =
      let place : a.place ≡ b.place =
      one_each w.setting.members ((stepping w step h r e).outcome).mail a.place b.place a.envelope b.envelope a.there b.there
      (a.to ∙ sym b.to) in
      a.serial ∙ (ap (λ i. suc (length (state_of w).sent + i)) place ∙ sym b.serial)

  once_more : IsOnce longer
  once_more = record {
    past = λ p q c k f. elim (named_cases w step h r e p q c k f) [
      | inl a ↦ past_old p q c k a
      | inr b ↦ past_new p q c k b
    ];
    one = λ p q c j k a b. elim (named_cases w step h r e p q c j a) [
      | inl x ↦ elim (named_cases w step h r e p q c k b) [
        | inl y ↦ old.one p q c j k x y
        | inr y ↦ absurd (not_again p q c j k x y)
      ]
      | inr x ↦ elim (named_cases w step h r e p q c k b) [
        | inl y ↦ absurd (not_again p q c k j y x)
        | inr y ↦ one_new p q c j k x y
      ]
    ];
  }

once_run : (w : Rehearsal) → IsRun w → IsOnce w
once_run = by_steps IsOnce
    (λ s cells. record {
      past = λ p q c k f. absurd (none_named s cells p q c k f);
      one = λ p q c j k a b. absurd (none_named s cells p q c j a);
    })
    once_more

-- a sender, a receiver and what is carried are those of one serial
named_once : (w : Rehearsal) → IsRun w → (p q : ℕ) (c : Carried) (j k : ℕ) → IsNamed w p q c j → IsNamed w p q c k → j ≡ k
named_once w r = (once_run w r).one

pub one_receipt : (w : Rehearsal) → IsRun w → (p j k : ℕ) (name : FullName) → IsReceipt w p j name → IsReceipt w p k name → j ≡ k
one_receipt w r p j k name a b = named_once w r name.from p name.carried j k (receipt_named w p j name a) (receipt_named w p k name b)

-- a sender has behind it what it sent
pub named_past : (w : Rehearsal) → IsRun w → (p q : ℕ) (c : Carried) (k : ℕ) → IsNamed w p q c k →
    IsMember w.setting.members p × PastIn w.setting (state_of w) p c
named_past w r = (once_run w r).past
