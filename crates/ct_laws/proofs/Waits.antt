-- Which envelopes wait between steps of a record whose steps are all allowed.
use Rattle.std.proofs.Common.{◌≡◌, ℕ, zero, suc, ◌-◌, ◌<◌, ◌≤◌, Bool, true, false, not, length, refl, ap}
use Rattle.std.proofs.Common.{Option, Some, None, sym, ◌∙◌, subst, arith}
use Rattle.std.proofs.lemmas.Bool.Decides.{nat_tests}
use Rattle.std.specs.Prelude.{slice_get, is_some, ◌==◌, ◌&&◌, ◌||◌, option_and_then}
use Rattle.ct_names.proofs.Lists.{contrary}
use Rattle.ct_model.specs.declared.step.Step.{Step}
use Rattle.ct_model.specs.Actor.{actor}
use Rattle.ct_model.specs.AtValue.{Envelope}
use Rattle.ct_model.specs.Lawful.{IsAway, IsLetter, NamesWaiting, is_waiting}
use Rattle.ct_model.specs.Rehearsal.{Rehearsal, state_of}
use Rattle.ct_model.specs.State.{at_serial}
use Rattle.ct_model.specs.Stamps.{is_gone}
use Rattle.ct_model.specs.Next.{addressed, wire_to}
use Rattle.ct_model.specs.Waiting.{line_change}
use Rattle.ct_model.proofs.Basics.Options.{some-same, when-some}
use Rattle.ct_model.proofs.Basics.Tests.{not_true, same_number}
use Rattle.ct_model.proofs.Record.Envelopes.{sent_serial, waiting_letter}
use Rattle.ct_model.proofs.Record.Stamps.{is_gone-push, restores, takes as takes_out}
use Rattle.ct_records.specs.Replay.{IsAllowed}
use Rattle.ct_show.specs.Facts.{returns, takes}
use Rattle.ct_laws.specs.Diagrams.{sent_by}
use Rattle.ct_laws.proofs.Records.{at_within, kept, lawful, next_of, onward, part, part_next, within}

-- ---- a step

waits_at : (w : Rehearsal) (step : Step) (k : ℕ) → NamesWaiting w step → takes step k ≡ true → is_waiting w (actor step) k ≡ true
waits_at w step k h t = grind (arith, nat_tests)

away_at : (w : Rehearsal) (step : Step) (k : ℕ) → NamesWaiting w step → returns step k ≡ true → IsAway w (actor step) k
away_at w step k h t = grind (arith, nat_tests)

out_of : (step : Step) (k : ℕ) → takes step k ≡ true → takes_out (actor step) k (line_change step) ≡ true
out_of step k t = grind (arith, nat_tests)

not_out : (step : Step) (p k : ℕ) → takes step k ≡ false → takes_out p k (line_change step) ≡ false
not_out step p k t = grind (arith, nat_tests)

back_of : (step : Step) (k : ℕ) → returns step k ≡ true → restores (actor step) k (line_change step) ≡ true
back_of step k t = grind (arith, nat_tests)

not_back : (step : Step) (p k : ℕ) → returns step k ≡ false → restores p k (line_change step) ≡ false
not_back step p k t = grind (arith, nat_tests)

pub one_of : (step : Step) (k : ℕ) → takes step k ≡ true → returns step k ≡ false
one_of step k t = grind (arith, nat_tests)

-- ---- what is gone after some steps

gone_next : (w : Rehearsal) (n p k : ℕ) (step : Step) → slice_get w.steps n ≡ Some step →
    is_gone (part w (suc n)) p k
    ≡ ((is_gone (part w n) p k || takes_out p k (line_change step)) && not (restores p k (line_change step)))
gone_next w n p k step at = ap (λ v. is_gone v p k) (part_next w n step at) ∙ is_gone-push (part w n) step p k

-- none of the steps from one index on, before another, passes the test
abbrev pub NonePass : (Step → Bool) → Rehearsal → ℕ → ℕ → Type 0
NonePass test w from to = (m : ℕ) (step : Step) → from ≤ m → m < to → slice_get w.steps m ≡ Some step → test step ≡ false

stays_gone : (w : Rehearsal) (p k n m : ℕ) → n ≤ m → m ≤ length w.steps → is_gone (part w n) p k ≡ true →
    NonePass (λ step. returns step k) w n m → is_gone (part w m) p k ≡ true
stays_gone w p k n m up high here none =
    onward w.steps (λ i. is_gone (part w i) p k ≡ true) n m up high here (λ i step from to at before.
    grind (arith, gone_next w i p k step at, not_back step p k (none i step from to at)))

stays_here : (w : Rehearsal) (p k n m : ℕ) → n ≤ m → m ≤ length w.steps → is_gone (part w n) p k ≡ false →
    NonePass (λ step. takes step k) w n m → is_gone (part w m) p k ≡ false
stays_here w p k n m up high here none =
    onward w.steps (λ i. is_gone (part w i) p k ≡ false) n m up high here (λ i step from to at before.
    grind (arith, gone_next w i p k step at, not_out step p k (none i step from to at)))

-- ---- the envelope that a step names

-- the envelope of this serial was sent to p by the first steps
pub record IsMail (w : Rehearsal) (n p k : ℕ) : Type 0 where
  pub envelope : Envelope
  pub there : at_serial (state_of (part w n)).sent k ≡ Some envelope
  pub to : envelope.to ≡ p

mail_of : (w : Rehearsal) (n p k : ℕ) (e : Envelope) → IsLetter (state_of (part w n)) p k e → IsMail w n p k
mail_of w n p k e l = record { envelope = e; there = at_letter k l.positive l.there; to = l.to }
  where
    at_letter : (k : ℕ) → 1 ≤ k → slice_get (state_of (part w n)).sent (k - 1) ≡ Some e →
        at_serial (state_of (part w n)).sent k ≡ Some e
    at_letter zero h at = absurd (omega arith)
    at_letter (suc i) h at =
        let same : suc i - 1 ≡ i = omega arith in
        subst (λ m. slice_get (state_of (part w n)).sent m ≡ Some e) same at

mail_away : (w : Rehearsal) (n p k : ℕ) → is_some (wire_to (state_of (part w n)) p k) ≡ true → IsMail w n p k
unfolding wire_to
mail_away w n p k h = go (at_serial (state_of (part w n)).sent k) refl h
  where
    go : (o : Option Envelope) → at_serial (state_of (part w n)).sent k ≡ o → is_some (option_and_then (addressed p) o) ≡ true →
        IsMail w n p k
    go None is h = absurd (cc h)
    go (Some e) is h = record { envelope = e; there = is; to = same_number e.to p (when-some (e.to == p) e.wire h) }

-- one that was sent
pub mail_sent : (w : Rehearsal) (n p k : ℕ) → IsMail w n p k → (1 ≤ k) × (k ≤ sent_by w n)
mail_sent w n p k m = at_within (state_of (part w n)).sent k m.envelope m.there

-- sent by the step of an index
abbrev pub Sends : Rehearsal → ℕ → ℕ → Type 0
Sends w n k = (sent_by w n < k) × (k ≤ sent_by w (suc n))

module _ (w : Rehearsal) (all : IsAllowed w) where
  -- a step that takes an envelope, or puts it back: to whom it was sent
  pub mail_taken : (n k : ℕ) (step : Step) → slice_get w.steps n ≡ Some step → takes step k ≡ true → IsMail w n (actor step) k
  mail_taken n k step at t =
      let less = within w.steps n step at in
      let is = next_of w all n step at in
      let l = waiting_letter (part w n) (actor step) k (lawful w all n (omega arith)) (waits_at (part w n) step k is.names t) in
      mail_of w n (actor step) k l.0 l.1

  pub mail_returned : (n k : ℕ) (step : Step) → slice_get w.steps n ≡ Some step → returns step k ≡ true → IsMail w n (actor step) k
  mail_returned n k step at t =
      mail_away w n (actor step) k (away_at (part w n) step k (next_of w all n step at).names t).sent

  -- it was sent to one member
  pub mail_same : (n m p q k : ℕ) → n ≤ m → m ≤ length w.steps → IsMail w n p k → IsMail w m q k → p ≡ q
  mail_same n m p q k up high a b =
      let there = kept w all n m k a.envelope up high a.there in
      let same : a.envelope ≡ b.envelope = some-same a.envelope b.envelope (sym there ∙ b.there) in
      sym a.to ∙ ap (λ (e : Envelope). e.to) same ∙ b.to

  -- ---- what is known of it

  -- what waits isn't gone
  not_gone_taken : (n k : ℕ) (step : Step) → slice_get w.steps n ≡ Some step → takes step k ≡ true →
      is_gone (part w n) (actor step) k ≡ false
  not_gone_taken n k step at t =
      let less = within w.steps n step at in
      let law = lawful w all n (omega arith) in
      grind (arith, law.waits (actor step) k, waits_at (part w n) step k (next_of w all n step at).names t)

  gone_returned : (n k : ℕ) (step : Step) → slice_get w.steps n ≡ Some step → returns step k ≡ true →
      is_gone (part w n) (actor step) k ≡ true
  gone_returned n k step at t =
      let less = within w.steps n step at in
      let law = lawful w all n (omega arith) in
      let away = away_at (part w n) step k (next_of w all n step at).names t in
      grind (arith, law.waits (actor step) k, away.away, sent_serial (state_of (part w n)) (actor step) k away.sent)

  -- two steps that take an envelope: one between them puts it back
  pub returned_between : (m n k : ℕ) (first second : Step) → slice_get w.steps m ≡ Some first → slice_get w.steps n ≡ Some second →
      takes first k ≡ true → takes second k ≡ true → m < n → NonePass (λ step. returns step k) w (suc m) n → ⊥
  returned_between m n k first second at there t u less none =
      let within_n = within w.steps n second there in
      let p_is : actor first ≡ actor second =
      mail_same m n (actor first) (actor second) k (omega arith) (omega arith) (mail_taken m k first at t)
      (mail_taken n k second there u) in
      let out : takes_out (actor second) k (line_change first) ≡ true =
      subst (λ p. takes_out p k (line_change first) ≡ true) p_is (out_of first k t) in
      let back = not_back first (actor second) k (one_of first k t) in
      let gone : is_gone (part w (suc m)) (actor second) k ≡ true =
      grind (arith, gone_next w m (actor second) k first at) in
      contrary (is_gone (part w n) (actor second) k) (stays_gone w (actor second) k (suc m) n less (omega arith) gone none)
      (not_gone_taken n k second there u)

  taken_before : (n k : ℕ) → Sends w n k → (step : Step) → slice_get w.steps n ≡ Some step → takes step k ≡ false
  taken_before n k sends step at =
      not_true (takes step k) (λ is. let m = mail_sent w n (actor step) k (mail_taken n k step at is) in absurd (omega arith))

  -- what is in its line stays there until a step takes it out, so no step puts it back before
  here_still : (m n k : ℕ) (second : Step) → slice_get w.steps n ≡ Some second → returns second k ≡ true → m < n →
      NonePass (λ step. takes step k) w (suc m) n → is_gone (part w (suc m)) (actor second) k ≡ false → ⊥
  here_still m n k second there u less none here =
      let within_n = within w.steps n second there in
      contrary (is_gone (part w n) (actor second) k) (gone_returned n k second there u)
      (stays_here w (actor second) k (suc m) n less (omega arith) here none)

  -- after a step that put the envelope into its line, with none that takes it out since, no step puts it back
  pub never_returned : (m n k : ℕ) (first second : Step) → slice_get w.steps m ≡ Some first → slice_get w.steps n ≡ Some second →
      returns first k ≡ true → returns second k ≡ true → m < n → NonePass (λ step. takes step k) w (suc m) n → ⊥
  never_returned m n k first second at there t u less none =
      let within_n = within w.steps n second there in
      let p_is : actor first ≡ actor second =
      mail_same m n (actor first) (actor second) k (omega arith) (omega arith) (mail_returned m k first at t)
      (mail_returned n k second there u) in
      here_still m n k second there u less none
      (subst (λ p. is_gone (part w (suc m)) p k ≡ false) p_is
      (grind (arith, gone_next w m (actor first) k first at, back_of first k t)))

  pub never_returned_sent : (m n k : ℕ) (first second : Step) → slice_get w.steps m ≡ Some first → slice_get w.steps n ≡ Some second →
      Sends w m k → returns second k ≡ true → m < n → NonePass (λ step. takes step k) w (suc m) n → ⊥
  never_returned_sent m n k first second at there sends u less none =
      let within_m = within w.steps m first at in
      let law = lawful w all m (omega arith) in
      here_still m n k second there u less none
      (grind (
        arith,
        gone_next w m (actor second) k first at,
        law.unsent (actor second) k sends.0,
        not_out first (actor second) k (taken_before m k sends first at),
      ))
