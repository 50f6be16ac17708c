-- What own steps send, and the serials of that.
use Rattle.ct_merge.proofs.Common.{◌≡◌, ℕ, suc, ◌+◌, ◌-◌, ◌<◌, true, List, ◌++◌, Some, length, length-append, inl, inr, refl, sym, ap, ◌∙◌}
use Rattle.ct_merge.proofs.Common.{subst, arith, replicate, slice_get, cases_Bool, actor, Envelope, Wire, Outcome, next, Rehearsal}
use Rattle.ct_merge.proofs.Common.{state_of, empty, extended, senders, Setting, State, member, at_serial, envelopes, Step, some-same}
use Rattle.ct_merge.proofs.Common.{some-none, Carries, carries-mail, get-wire, at-front, IsStep, history-run, deed_of, letter, Sends}
use Rattle.ct_merge.proofs.Common.{IsFrom, IsPosted, Moment, is_own, is_repeat, own, carried_of, IsRun, IsNamed}
use Rattle.ct_merge.proofs.Local.{outcome_is}
use Rattle.ct_merge.proofs.Moments.{get_back, get_below, get_last, get_many, no_own, not_own, own_actor, own_cases, own_front, repeat_is}
use Rattle.ct_merge.proofs.SentOnce.{PastIn, stepping, sent_more, named_cases, none_named, one_each, past_not, named_past}
use Rattle.ct_merge.proofs.Owning.{at, only, own_more}
use Rattle.ct_merge.proofs.Running.{known, by_steps, state_next, senders_next}

-- one of these names is the other's
pub is_named : (w : Rehearsal) (p q : ℕ) (x : Wire) (k : ℕ) → IsFrom w p q x k → IsNamed w p q (carried_of x) k
is_named w p q x k f = record { envelope = letter q x; there = f.there; to = refl; carried = refl; from = f.sender }

-- what a step sends it carries
pub sends_carries : (m : Moment) (q : ℕ) (x : Wire) (s : Sends m q x) → Carries (s.outcome).mail x
sends_carries m q x s =
    carries-mail m.before.setting.members (s.outcome).mail x
    (get-wire (envelopes m.before.setting.members (s.outcome).mail) s.place (letter q x) s.there)

-- a step sends each receiver one wire
pub sends_one : (m : Moment) (q : ℕ) (x y : Wire) → Sends m q x → Sends m q y → x ≡ y
sends_one m q x y a b =
    let n : ℕ = m.before.setting.members in
    let same : a.outcome ≡ b.outcome = some-same a.outcome b.outcome (sym a.is ∙ b.is) in
    let there : slice_get (envelopes n (a.outcome).mail) b.place ≡ Some (letter q y) =
    subst (λ (o : Outcome). slice_get (envelopes n o.mail) b.place ≡ Some (letter q y)) (sym same) b.there in
    let place : a.place ≡ b.place = one_each n (a.outcome).mail a.place b.place (letter q x) (letter q y) a.there there refl in
    ap (λ (e : Envelope). e.wire) (some-same (letter q x) (letter q y)
    (sym a.there ∙ (ap (λ i. slice_get (envelopes n (a.outcome).mail) i) place ∙ there)))

-- ---- one step more

module _ (w : Rehearsal) (step : Step) (h : State) (r : IsRun w) (e : next w.setting (state_of w) step ≡ Some h) where
  abbrev t : IsStep w.setting (state_of w) step h
  t = stepping w step h r e

  abbrev longer : Rehearsal
  longer = extended w step

  abbrev mail : List Envelope
  mail = envelopes w.setting.members (t.outcome).mail

  deed_now : deed_of (at w step) ≡ Some t.outcome
  deed_now = outcome_is w.setting (state_of w) step h t

  -- what sends is no repetition
  sending_own : (i : ℕ) (x : Envelope) → slice_get mail i ≡ Some x → is_own (actor step) (at w step) ≡ true
  sending_own i x there = elim (cases_Bool (is_own (actor step) (at w step))) [
    | inl own_it ↦ own_it
    | inr other ↦
        let repeated = not_own (actor step) (actor step) (is_repeat step) other refl in
        let o = repeat_is w.setting (state_of w) (actor step) (member (state_of w) (actor step)) step t.outcome repeated t.row in
        some-none x (sym (ap (λ (o : Outcome). slice_get (envelopes w.setting.members o.mail) i) o) ∙ there)
  ]

  at_new : (i : ℕ) → at_serial (state_of longer).sent (suc (length (state_of w).sent + i)) ≡ slice_get mail i
  at_new i =
      ap (λ l. at_serial l (suc (length (state_of w).sent + i))) (sent_more w step h r e)
      ∙ get_back (state_of w).sent mail i

  -- what had a serial has it
  pub from_kept : (p q : ℕ) (x : Wire) (k : ℕ) → IsFrom w p q x k → IsFrom longer p q x k
  from_kept p q x k f = record {
    there = ap (λ l. at_serial l k) (sent_more w step h r e) ∙ at-front (state_of w).sent mail k (letter q x) f.there;
    sender =
        ap (λ l. at_serial l k) (senders_next w step h r e)
        ∙ at-front (senders w.setting w.steps) (replicate (length h.sent - length (state_of w).sent) (actor step)) k p f.sender;
  }

  -- what the step sends has one
  from_new : (p q : ℕ) (x : Wire) → actor step ≡ p → Sends (at w step) q x → (k : ℕ) × IsFrom longer p q x k
  from_new p q x is s =
      let same : s.outcome ≡ t.outcome = some-same s.outcome t.outcome (sym s.is ∙ deed_now) in
      let there : slice_get mail s.place ≡ Some (letter q x) =
      subst (λ (o : Outcome). slice_get (envelopes w.setting.members o.mail) s.place ≡ Some (letter q x)) same s.there in
      let count : length (senders w.setting w.steps) ≡ length (state_of w).sent = (history-run w.setting w.steps (state_of w) r).count in
      let low : s.place < length mail = get_below mail s.place (letter q x) there in
      let all : length (state_of longer).sent ≡ length (state_of w).sent + length mail =
      ap length (sent_more w step h r e) ∙ length-append (state_of w).sent mail in
      let grown : length h.sent ≡ length (state_of longer).sent = ap (λ (g : State). length g.sent) (sym (state_next w step h e)) in
      let many : s.place < length h.sent - length (state_of w).sent = omega arith in
      let who : slice_get (senders w.setting w.steps ++ replicate (length h.sent - length (state_of w).sent) (actor step))
      (length (senders w.setting w.steps) + s.place) ≡ Some (actor step) =
      get_back (senders w.setting w.steps) (replicate (length h.sent - length (state_of w).sent) (actor step)) s.place
      ∙ get_many (length h.sent - length (state_of w).sent) s.place (actor step) many in (
        suc (length (state_of w).sent + s.place),
        record {
          there = at_new s.place ∙ there;
          sender =
              ap (λ l. at_serial l (suc (length (state_of w).sent + s.place))) (senders_next w step h r e)
              ∙ (ap (λ n. slice_get (senders w.setting w.steps ++ replicate (length h.sent - length (state_of w).sent) (actor step))
              (n + s.place)) (sym count)
              ∙ (who ∙ ap Some is));
        },
      )

  posted_kept : (p q : ℕ) (x : Wire) → IsPosted w p q x → IsPosted longer p q x
  posted_kept p q x f = record { place = f.place; moment = f.moment; there = own_front w step p f.place f.moment f.there; sends = f.sends }

  posted_new : (p q : ℕ) (x : Wire) (i : ℕ) → p ≡ actor step → slice_get mail i ≡ Some (letter q x) → IsPosted longer p q x
  posted_new p q x i mine there =
      let is : is_own p (at w step) ≡ true = subst (λ p. is_own p (at w step) ≡ true) (sym mine) (sending_own i (letter q x) there) in
      record {
        place = length (own w p);
        moment = at w step;
        there =
            ap (λ l. slice_get l (length (own w p))) (own_more w p step ∙ ap (λ b. own w p ++ only b (at w step)) is)
            ∙ get_last (own w p) (at w step);
        sends = record { outcome = t.outcome; is = deed_now; place = i; there = there };
      }

  posted_more : ((p q : ℕ) (x : Wire) (k : ℕ) → IsFrom w p q x k → IsPosted w p q x) → (p q : ℕ) (x : Wire) (k : ℕ) →
      IsFrom longer p q x k → IsPosted longer p q x
  posted_more old p q x k f = elim (named_cases w step h r e p q (carried_of x) k (is_named longer p q x k f)) [
    | inl a ↦
        let still : at_serial (state_of longer).sent k ≡ Some a.envelope =
        ap (λ l. at_serial l k) (sent_more w step h r e) ∙ at-front (state_of w).sent mail k a.envelope a.there in
        let same : a.envelope ≡ letter q x = some-same a.envelope (letter q x) (sym still ∙ f.there) in
        posted_kept p q x (old p q x k (record { there = a.there ∙ ap Some same; sender = a.from }))
    | inr b ↦
        let at_place : at_serial (state_of longer).sent k ≡ slice_get mail b.place =
        ap (λ k. at_serial (state_of longer).sent k) b.serial ∙ at_new b.place in
        posted_new p q x b.place b.mine (sym at_place ∙ f.there)
  ]

  sent_more_of : ((p i : ℕ) (m : Moment) (q : ℕ) (x : Wire) → slice_get (own w p) i ≡ Some m → Sends m q x → (k : ℕ) × IsFrom w p q x k) →
      (p i : ℕ) (m : Moment) (q : ℕ) (x : Wire) → slice_get (own longer p) i ≡ Some m → Sends m q x → (k : ℕ) × IsFrom longer p q x k
  sent_more_of old p i m q x there s = elim (own_cases w step p i m there) [
    | inl a ↦ let f = old p i m q x a s in (f.0, from_kept p q x f.0 f.1)
    | inr b ↦ from_new p q x (own_actor p (at w step) b.own) (subst (λ m. Sends m q x) b.is s)
  ]

-- ---- every run

none_from : (s : Setting) (cells p q : ℕ) (x : Wire) (k : ℕ) → IsFrom (empty s cells) p q x k → ⊥
none_from s cells p q x k f = none_named s cells p q (carried_of x) k (is_named (empty s cells) p q x k f)

-- what has a serial an own step of its sender sent
pub posted : (w : Rehearsal) → IsRun w → (p q : ℕ) (x : Wire) (k : ℕ) → IsFrom w p q x k → IsPosted w p q x
posted = by_steps (λ w. (p q : ℕ) (x : Wire) (k : ℕ) → IsFrom w p q x k → IsPosted w p q x)
    (λ s cells p q x k f. absurd (none_from s cells p q x k f)) posted_more

-- what an own step sends has a serial
pub sent_serial : (w : Rehearsal) → IsRun w → (p i : ℕ) (m : Moment) (q : ℕ) (x : Wire) → slice_get (own w p) i ≡ Some m → Sends m q x →
    (k : ℕ) × IsFrom w p q x k
sent_serial = by_steps
    (λ w. (p i : ℕ) (m : Moment) (q : ℕ) (x : Wire) → slice_get (own w p) i ≡ Some m → Sends m q x → (k : ℕ) × IsFrom w p q x k)
    (λ s cells p i m q x e sends. some-none m (sym (ap (λ l. slice_get l i) (no_own s cells p)) ∙ e)) sent_more_of

-- ---- no own step sends again what one sent

SendsApart : Rehearsal → Type 0
SendsApart w = (p q i j : ℕ) (m n : Moment) (x y : Wire) → slice_get (own w p) i ≡ Some m → slice_get (own w p) j ≡ Some n →
    Sends m q x → Sends n q y → carried_of x ≡ carried_of y → i ≡ j

module _ (w : Rehearsal) (step : Step) (h : State) (r : IsRun w) (e : next w.setting (state_of w) step ≡ Some h) where
  not_twice : (p q i : ℕ) (m : Moment) (x y : Wire) → slice_get (own w p) i ≡ Some m → is_own p (at w step) ≡ true → Sends m q x →
      Sends (at w step) q y → carried_of x ≡ carried_of y → ⊥
  not_twice p q i m x y there is a b named =
      let k = sent_serial w r p i m q x there a in
      let before = (named_past w r p q (carried_of x) k.0 (is_named w p q x k.0 k.1)).1 in
      let facts = known w r in
      let tt = stepping w step h r e in
      let same : b.outcome ≡ tt.outcome = some-same b.outcome tt.outcome (sym b.is ∙ outcome_is w.setting (state_of w) step h tt) in
      let carried : Carries (tt.outcome).mail y = subst (λ (o : Outcome). Carries o.mail y) same (sends_carries (at w step) q y b) in
      let mine : p ≡ actor step = sym (own_actor p (at w step) is) in
      past_not w.setting (state_of w) step h tt facts.holds facts.knows y carried
      (subst (λ z. PastIn w.setting (state_of w) z (carried_of y)) mine
      (subst (λ c. PastIn w.setting (state_of w) p c) named before))

  apart_more : SendsApart w → SendsApart (extended w step)
  unfolding SendsApart
  apart_more old p q i j m n x y a b s u named = elim (own_cases w step p i m a) [
    | inl c ↦ elim (own_cases w step p j n b) [
      | inl d ↦ old p q i j m n x y c d s u named
      | inr d ↦ absurd (not_twice p q i m x y c d.own s (subst (λ z. Sends z q y) d.is u) named)
    ]
    | inr c ↦ elim (own_cases w step p j n b) [
      | inl d ↦ absurd (not_twice p q j n y x d c.own u (subst (λ z. Sends z q x) c.is s) (sym named))
      | inr d ↦ c.place ∙ sym d.place
    ]
  ]

pub sends_apart : (w : Rehearsal) → IsRun w → (p q i j : ℕ) (m n : Moment) (x y : Wire) → slice_get (own w p) i ≡ Some m →
    slice_get (own w p) j ≡ Some n → Sends m q x → Sends n q y → carried_of x ≡ carried_of y → i ≡ j
unfolding SendsApart
sends_apart = by_steps SendsApart
    (λ s cells p q i j m n x y a b u v named. some-none m (sym (ap (λ l. slice_get l i) (no_own s cells p)) ∙ a)) apart_more
