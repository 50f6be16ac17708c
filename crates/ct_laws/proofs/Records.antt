-- The first steps of a record whose steps are all allowed.
use Rattle.ct_names.specs.Membership.{IsIn}
use Rattle.std.proofs.Common.{◌≡◌, ℕ, zero, suc, ◌+◌, ◌<◌, ◌≤◌, List, [], ◌∷◌, ◌++◌, length, take, refl, ap}
use Rattle.std.proofs.Common.{Some, sym, ◌∙◌, subst, arith, inl, inr, eq-or-lt_of_le, replicate, length-append}
use Rattle.std.proofs.Math.Seq.{take-length}
use Rattle.std.proofs.lemmas.List.{length-replicate}
pub use Rattle.std.proofs.lemmas.Option.{slice_get_within as within}
use Rattle.std.specs.Prelude.{slice_get}
use Rattle.ct_model.specs.declared.step.Step.{Step}
use Rattle.ct_model.specs.Actor.{actor}
use Rattle.ct_model.specs.AtValue.{Envelope}
use Rattle.ct_model.specs.Lawful.{IsLawful, NamesWaiting}
use Rattle.ct_model.specs.Next.{next}
use Rattle.ct_model.specs.Rehearsal.{Rehearsal, extended, state_of}
use Rattle.ct_model.specs.Senders.{senders, senders_from}
use Rattle.ct_model.specs.State.{State, at_serial, first_state}
use Rattle.ct_model.specs.Wire.{envelopes}
use Rattle.ct_world.specs.Replay.{first_steps}
use Rattle.ct_records.specs.Replay.{IsAllowed}
use Rattle.ct_text.proofs.Tracing.{senders_more}
use Rattle.ct_laws.specs.Diagrams.{sent_by}
use Rattle.ct_model.proofs.Basics.Options.{some-none, some-same}
use Rattle.ct_model.proofs.Record.Allowed.{allowed-lawful, cause-allowed, names-free}
use Rattle.ct_model.proofs.Record.Runs.{state_of-push, stepped-next}
use Rattle.ct_model.proofs.Record.Senders.{at-front}
use Rattle.ct_model.proofs.Record.Start.{lawful-first, state-first}
use Rattle.ct_model.proofs.Relay.Messages.{next-is}

-- ---- the first steps

abbrev pub part : Rehearsal → ℕ → Rehearsal
part w n = first_steps w.setting w.cells w.steps n

pub take_next : {A : Type 0} (xs : List A) (n : ℕ) (x : A) → slice_get xs n ≡ Some x → take (suc n) xs ≡ take n xs ++ x ∷ []
take_next [] n x h = some-none x h
take_next (y ∷ xs) zero x h = ap (λ z. z ∷ []) (some-same y x h)
take_next (y ∷ xs) (suc n) x h = ap (λ l. y ∷ l) (take_next xs n x h)

pub got : {A : Type 0} (xs : List A) (n : ℕ) → n < length xs → (x : A) × (slice_get xs n ≡ Some x)
got [] n h = absurd (omega arith)
got (y ∷ xs) zero h = (y, refl)
got (y ∷ xs) (suc n) h = got xs n (omega arith)

pub at_in : {A : Type 0} (xs : List A) (i : ℕ) (x : A) → slice_get xs i ≡ Some x → IsIn x xs
at_in [] i x h = some-none x h
at_in (y ∷ xs) i x h = grind (arith, at_in xs)

pub at_of : {A : Type 0} (xs : List A) (k : ℕ) → 1 ≤ k → k ≤ length xs → (x : A) × (at_serial xs k ≡ Some x)
at_of xs zero low high = absurd (omega arith)
at_of xs (suc i) low high = got xs i (omega arith)

pub at_within : {A : Type 0} (xs : List A) (k : ℕ) (x : A) → at_serial xs k ≡ Some x → (1 ≤ k) × (k ≤ length xs)
at_within xs zero x h = some-none x h
at_within xs (suc i) x h = let less = within xs i x h in (omega arith, omega arith)

pub part_next : (w : Rehearsal) (n : ℕ) (step : Step) → slice_get w.steps n ≡ Some step → part w (suc n) ≡ extended (part w n) step
part_next w n step h = ap (λ (steps : List Step). record w { steps = steps }) (take_next w.steps n step h)

pub part_all : (w : Rehearsal) → part w (length w.steps) ≡ w
part_all w = ap (λ (steps : List Step). record w { steps = steps }) (take-length w.steps)

-- what holds of the first steps, and goes on with each step, holds of more of them
pub onward : (steps : List Step) (P : ℕ → Type 0) (n m : ℕ) → n ≤ m → m ≤ length steps → P n →
    ((i : ℕ) (step : Step) → n ≤ i → i < m → slice_get steps i ≡ Some step → P i → P (suc i)) → P m
onward steps P n zero up within here next = let same : n ≡ 0 = omega arith in subst P same here
onward steps P n (suc m) up within here next =
    elim (eq-or-lt_of_le up) [
      | inl same ↦ subst P same here
      | inr less ↦
          let step = got steps m (omega arith) in
          next m step.0 (omega arith) (omega arith) step.1
          (onward steps P n m (omega arith) (omega arith) here (λ i s from to at. next i s from (omega arith) at))
    ]

-- a step of the record leads from state to state
pub record IsNext (w : Rehearsal) (n : ℕ) (step : Step) : Type 0 where
  pub next : next w.setting (state_of (part w n)) step ≡ Some (state_of (part w (suc n)))
  pub more : List Envelope
  pub sent : (state_of (part w (suc n))).sent ≡ (state_of (part w n)).sent ++ more
  pub names : NamesWaiting (part w n) step

module _ (w : Rehearsal) (all : IsAllowed w) where
  pub lawful : (n : ℕ) → n ≤ length w.steps → IsLawful (part w n)
  lawful n h =
      onward w.steps (λ i. IsLawful (part w i)) 0 n (omega arith) h (lawful-first w.setting w.cells) (λ i step _ below at law.
      subst IsLawful (sym (part_next w i step at))
      (allowed-lawful (part w i) step law (cause-allowed (part w i) step law (all i step (within w.steps i step at) at))))

  pub next_of : (n : ℕ) (step : Step) → slice_get w.steps n ≡ Some step → IsNext w n step
  unfolding Rattle.ct_model.specs.Next.after
  next_of n step at =
      let less = within w.steps n step at in
      let free = all n step less at in
      let allowed = cause-allowed (part w n) step (lawful n (omega arith)) free in
      let new : state_of (part w (suc n)) ≡ allowed.after =
      ap state_of (part_next w n step at) ∙ state_of-push (part w n) step
      ∙ stepped-next w.setting (state_of (part w n)) allowed.after step allowed.enabled in
      let is = next-is w.setting (state_of (part w n)) step allowed.after allowed.enabled in
      record {
        next = allowed.enabled ∙ ap Some (sym new);
        more = envelopes w.setting.members is.outcome.mail;
        sent = ap (λ (g : State). g.sent) new ∙ sym (ap (λ (g : State). g.sent) is.gives);
        names = names-free (part w n) step free;
      }

  -- how many more the next step sends
  more_by : (n : ℕ) (step : Step) (at : slice_get w.steps n ≡ Some step) →
      sent_by w (suc n) ≡ sent_by w n + length (next_of n step at).more
  more_by n step at = ap length (next_of n step at).sent ∙ length-append (state_of (part w n)).sent (next_of n step at).more

  -- what was sent stays where it is
  pub kept : (n m k : ℕ) (e : Envelope) → n ≤ m → m ≤ length w.steps → at_serial (state_of (part w n)).sent k ≡ Some e →
      at_serial (state_of (part w m)).sent k ≡ Some e
  kept n m k e up high here =
      onward w.steps (λ i. at_serial (state_of (part w i)).sent k ≡ Some e) n m up high here (λ i step _ _ at before.
      let is = next_of i step at in
      ap (λ l. at_serial l k) is.sent ∙ at-front (state_of (part w i)).sent is.more k e before)

  pub grows : (n m : ℕ) → n ≤ m → m ≤ length w.steps → sent_by w n ≤ sent_by w m
  grows n m up high =
      onward w.steps (λ i. sent_by w n ≤ sent_by w i) n m up high (omega arith) (λ i step _ _ at before.
      let more = more_by i step at in omega arith)

  -- an envelope that the first steps sent is that of the whole record
  pub same_there : (n k : ℕ) → n ≤ length w.steps → 1 ≤ k → k ≤ sent_by w n →
      at_serial (state_of (part w n)).sent k ≡ at_serial (state_of w).sent k
  same_there n k high low few =
      let there = at_of (state_of (part w n)).sent k low few in
      let later = kept n (length w.steps) k there.0 high (omega arith) there.1 in
      there.1 ∙ sym (subst (λ (v : Rehearsal). at_serial (state_of v).sent k ≡ Some there.0) (part_all w) later)

  -- ---- senders

  senders_next : (n : ℕ) (step : Step) (at : slice_get w.steps n ≡ Some step) →
      senders w.setting (take (suc n) w.steps)
      ≡ senders w.setting (take n w.steps) ++ replicate (length (next_of n step at).more) (actor step)
  senders_next n step at =
      let less = within w.steps n step at in
      let law = lawful n (omega arith) in
      ap (senders w.setting) (take_next w.steps n step at)
      ∙ senders_more w.setting (take n w.steps) step (state_of (part w n)) (state_of (part w (suc n))) (length (next_of n step at).more)
      law.runs (next_of n step at).next (more_by n step at)

  -- there is one for each envelope
  pub senders_length : (n : ℕ) → n ≤ length w.steps → length (senders w.setting (take n w.steps)) ≡ sent_by w n
  unfolding senders senders_from first_state
  senders_length n h =
      onward w.steps (λ i. length (senders w.setting (take i w.steps)) ≡ sent_by w i) 0 n (omega arith) h
      (sym (ap (λ (g : State). length g.sent) (state-first w.setting w.cells))) (λ i step _ _ at before.
      let more = length (next_of i step at).more in
      ap length (senders_next i step at)
      ∙ length-append (senders w.setting (take i w.steps)) (replicate more (actor step))
      ∙ ap (λ x. length (senders w.setting (take i w.steps)) + x) (length-replicate more (actor step))
      ∙ ap (λ x. x + more) before ∙ sym (more_by i step at))

  -- the sender of an envelope that the first steps sent is that of the whole record
  pub same_sender : (n k : ℕ) → n ≤ length w.steps → 1 ≤ k → k ≤ sent_by w n →
      at_serial (senders w.setting (take n w.steps)) k ≡ at_serial (senders w.setting w.steps) k
  same_sender n k high low few =
      let count = senders_length n high in
      let there = at_of (senders w.setting (take n w.steps)) k low (omega arith) in
      let later = onward w.steps (λ i. at_serial (senders w.setting (take i w.steps)) k ≡ Some there.0) n (length w.steps) high
      (omega arith) there.1 (λ i step _ _ at before.
      ap (λ l. at_serial l k) (senders_next i step at)
      ∙ at-front (senders w.setting (take i w.steps)) (replicate (length (next_of i step at).more) (actor step)) k there.0 before) in
      there.1 ∙ sym (subst (λ steps. at_serial (senders w.setting steps) k ≡ Some there.0) (take-length w.steps) later)
