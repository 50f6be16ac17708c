-- The numbers of a record whose steps are all allowed: those that its wires and its messages have.
use Rattle.ct_laws.proofs.Records.{got, take_next}
use Rattle.std.proofs.Common.{◌≡◌, ℕ, zero, suc, ◌≤◌, ◌<◌, List, [], ◌∷◌, ◌++◌, length, take, Option, Some, None, refl, sym, ap, ◌∙◌, subst}
use Rattle.std.proofs.Common.{inl, inr, arith}
use Rattle.std.specs.Prelude.{⊤, map, slice_get}
use Rattle.ct_names.specs.Command.{is_good}
use Rattle.ct_names.specs.declared.limit.TheConstants.{MAX_INSTANCES, MAX_ROUNDS}
use Rattle.ct_names.specs.Group.{IsMember, members}
use Rattle.ct_names.specs.Membership.{IsIn}
use Rattle.ct_names.specs.Message.{Message}
use Rattle.ct_names.proofs.Groups.{counting-range}
use Rattle.ct_names.proofs.Lists.{IsIn-append_cases}
use Rattle.ct_model.specs.Actor.{actor}
use Rattle.ct_model.specs.AtValue.{Envelope, Mail, Standing, Turn, Wire}
use Rattle.ct_model.specs.Cause.{cause, round_of}
use Rattle.ct_model.specs.declared.mail.Mail.TheVariants.{Nobody, One, All}
use Rattle.ct_model.specs.declared.moves.Move.{Move}
use Rattle.ct_model.specs.declared.moves.Move.TheVariants as moves
use Rattle.ct_model.specs.declared.step.Step.{Step}
use Rattle.ct_model.specs.declared.step.Step.TheVariants.{Submit, Receive, Begin, Enter, Choose, Adopt, Suspect, Conclude, Deliver, Follow}
use Rattle.ct_model.specs.declared.step.Step.TheVariants.{Crash, Postpone, Lose, Repeat}
use Rattle.ct_model.specs.declared.wire.Wire.TheVariants.{Data, Est, Prop, Ack, Nack, Dec}
use Rattle.ct_model.specs.Lawful.{IsLawful}
use Rattle.ct_model.specs.Next.{Outcome, after, crash, is_relayed, line_row, own_ballots, plain, receive, round_row, row, submit, turn_at}
use Rattle.ct_model.specs.Next.{turned, wire_to}
use Rattle.ct_model.specs.Received.{decided}
use Rattle.ct_model.specs.Rehearsal.{Rehearsal, empty, extended, state_of}
use Rattle.ct_model.specs.Setting.{Setting}
use Rattle.ct_model.specs.State.{Member, State, first_state, member}
use Rattle.ct_model.specs.Wire.{envelopes}
use Rattle.ct_model.proofs.Basics.Groups.{member_is}
use Rattle.ct_model.proofs.Basics.Options.{made-map, some-same, when-is}
use Rattle.ct_model.proofs.Consensus.Facts.{Holds}
use Rattle.ct_model.proofs.Consensus.Runs.{Holds-run}
use Rattle.ct_model.proofs.Consensus.Sent.{Carries, Sent, Sent-cases, Sent-wire}
use Rattle.ct_model.proofs.Record.Addressees.{addressed-step}
use Rattle.ct_model.proofs.Record.Allowed.{allowed-lawful, cause-allowed}
use Rattle.ct_model.proofs.Record.Frame.{after-sent, after-submitted, member-same}
use Rattle.ct_model.proofs.Record.Runs.{state_of-push, stepped-next}
use Rattle.ct_model.proofs.Record.Start.{lawful-first}
use Rattle.ct_model.proofs.Relay.Messages.{in_members, next-is}
use Rattle.ct_model.proofs.Steps.Mail.{carried-if}
use Rattle.ct_model.proofs.Steps.Rows.{adopt-is, begin_row-is, choose-is, conclude-is, deliver_row-is, enter-is, follow_row-is}
use Rattle.ct_model.proofs.Steps.Rows.{round_row-is, suspect-is}
use Rattle.ct_model.proofs.Steps.Shapes.{by_shape}
use Rattle.ct_records.specs.Fits.{AllFit, CommandFits, StepFits}
use Rattle.ct_world.specs.Replay.{AllowsFirst, first_steps}

-- ---- what a wire names

-- its numbers are those of an instance, a round and a member of a group of n
abbrev pub SmallWire : ℕ → Wire → Type 0
SmallWire n (Data m) = ⊤
SmallWire n (Est k r p v ts) = (k ≤ MAX_INSTANCES) × (r ≤ MAX_ROUNDS) × (p ≤ n) × (ts ≤ MAX_ROUNDS)
SmallWire n (Prop k r v) = (k ≤ MAX_INSTANCES) × (r ≤ MAX_ROUNDS)
SmallWire n (Ack k r p) = (k ≤ MAX_INSTANCES) × (r ≤ MAX_ROUNDS) × (p ≤ n)
SmallWire n (Nack k r p) = (k ≤ MAX_INSTANCES) × (r ≤ MAX_ROUNDS) × (p ≤ n)
SmallWire n (Dec k r v) = (k ≤ MAX_INSTANCES) × (r ≤ MAX_ROUNDS)

-- what was sent does, and goes to members; the numbers of what was submitted fit their fields
pub record IsSmall (w : Rehearsal) : Type 0 where
  pub wires : (x : Wire) → Sent (state_of w) x → SmallWire w.setting.members x
  pub letters : (e : Envelope) → IsIn e (state_of w).sent → IsMember w.setting.members e.to
  pub submitted : (m : Message) → IsIn m (state_of w).submitted → CommandFits m.command

-- ---- what a step sends

module _ (s : Setting) (g : State) (p : ℕ) (m : Member) (is : IsMember s.members p)
    (old : (x : Wire) → Sent g x → SmallWire s.members x) (sound : (c : Standing) → m.current ≡ Some c → c.ts ≤ c.round) where
  -- where the member is within the limits after it, what it sends is small
  abbrev SendsSmall : Outcome → Type 0
  SendsSmall o = o.member.last ≤ MAX_INSTANCES → round_of o.member ≤ MAX_ROUNDS → (x : Wire) → Carries o.mail x → SmallWire s.members x

  small_turn : (a : Move) (c : Standing) (t : Turn) → m.current ≡ Some c → turn_at s.members p m a c ≡ Some t → SendsSmall (turned m t)
  small_turn moves.Enter c t at h =
      let ts : c.ts ≤ c.round = sound c at in
      subst (λ (x : Turn). SendsSmall (turned m x)) (enter-is s.members p m.last (decided m.got m.last) c t h).gives
      (λ instances rounds x same. rw same (instances, rounds, is.1, omega arith))
  small_turn (moves.Choose from) c t at h =
      subst (λ (x : Turn). SendsSmall (turned m x)) (choose-is s.members m.last (own_ballots m c) c from t h).gives
      (λ instances rounds x same. rw same (instances, rounds))
  small_turn moves.Adopt c t at h =
      subst (λ (x : Turn). SendsSmall (turned m x)) (adopt-is s.members p m.last (own_ballots m c) c t h).gives
      (λ instances rounds x same. rw same (instances, rounds, is.1))
  small_turn moves.Suspect c t at h =
      subst (λ (x : Turn). SendsSmall (turned m x)) (suspect-is s.members p m.last (own_ballots m c) c t h).gives
      (λ instances rounds x same. rw same (instances, rounds, is.1))
  small_turn moves.Conclude c t at h =
      subst (λ (x : Turn). SendsSmall (turned m x)) (conclude-is s.members m.last (own_ballots m c) c t h).gives
      (λ instances rounds x carried. let r = carried-if _ (Dec m.last c.round c.estimate) x carried in rw r.1 (instances, rounds))

  small_row : (step : Step) (o : Outcome) → row s g p m step ≡ Some o → SendsSmall o
  small_row step o = by_shape s g p m SendsSmall step o (record {
    submits = λ c good instances rounds x same. rw same tt;
    gets = λ k w at instances rounds x carried.
        let r = carried-if (is_relayed s p m.got w) w x carried in rw r.1 (old w (Sent-wire g p k w at));
    opens = λ idle some instances rounds x never. absurd never;
    turns = small_turn;
    closes = λ c v open_at has delivers instances rounds x never. absurd never;
    follows = λ v idle has delivers instances rounds x never. absurd never;
    marks = λ crashed instances rounds x never. absurd never;
  })

-- ---- whom it goes to

to_all : (n : ℕ) (w : Wire) (ps : List ℕ) → ((p : ℕ) → IsIn p ps → IsMember n p) → (e : Envelope) →
    IsIn e (map (λ to. let x : Envelope = record { to = to; wire = w } in x) ps) → IsMember n e.to
to_all n w [] h e never = absurd never
to_all n w (p ∷ ps) h e (inl same) = rw same (h p (inl refl))
to_all n w (p ∷ ps) h e (inr later) = to_all n w ps (λ q i. h q (inr i)) e later

pub in_group : (n p : ℕ) → IsIn p (members n) → IsMember n p
unfolding members
in_group n p h = let range = counting-range 1 n p h in (range.0, omega (arith, range.1))

module _ (s : Setting) (g : State) (p : ℕ) (m : Member) (step : Step) (o : Outcome) (some : 0 < s.members)
    (is : row s g p m step ≡ Some o) where
  to_members : (mail : Mail) → o.mail ≡ mail → (e : Envelope) → IsIn e (envelopes s.members mail) → IsMember s.members e.to
  to_members Nobody same e never = absurd never
  to_members (One to w) same e (inl here) = rw here (addressed-step s g p m step o to w some is same)
  to_members (One to w) same e (inr never) = absurd never
  to_members (All w) same e h = to_all s.members w (members s.members) (in_group s.members) e h

-- ---- what it submits

-- each of these fits
FitAll : List Message → Type 0
FitAll list = (x : Message) → IsIn x list → CommandFits x.command

fit_none : (o : Outcome) → o.submitted ≡ [] → FitAll o.submitted
unfolding FitAll
fit_none o none x h = absurd (subst (λ list. IsIn x list) none h)

module _ (s : Setting) (g : State) (p : ℕ) (m : Member) where
  none_turned : (f : Standing → Option Turn) (o : Outcome) → round_row m f ≡ Some o → o.submitted ≡ []
  none_turned f o e = sym (ap (λ (x : Outcome). x.submitted) (round_row-is m f o e).gives)

  none_lined : (k : ℕ) (o : Outcome) → line_row g p m k ≡ Some o → o.submitted ≡ []
  none_lined k o e = sym (ap (λ (x : Outcome). x.submitted) (made-map (λ (w : Wire). plain m Nobody) (wire_to g p k) o e).gives)

  fit_row : (step : Step) (o : Outcome) → StepFits step → row s g p m step ≡ Some o → FitAll o.submitted
  unfolding FitAll
  fit_row (Submit _ c) o fits e =
      let r = when-is (is_good c) (submit g p m c) o e in
      subst (λ (x : Outcome). FitAll x.submitted) r.1 (λ x h. elim h [ inl same ↦ rw same fits.1 | inr never ↦ absurd never ])
  fit_row (Receive _ k) o fits e =
      fit_none o (sym (ap (λ (x : Outcome). x.submitted) (made-map (receive s p m) (wire_to g p k) o e).gives))
  fit_row (Begin _) o fits e = fit_none o (sym (ap (λ (x : Outcome). x.submitted) (begin_row-is s p m o e).1))
  fit_row (Enter q) o fits e = fit_none o (none_turned (turn_at s.members p m moves.Enter) o e)
  fit_row (Choose q from) o fits e = fit_none o (none_turned (turn_at s.members p m (moves.Choose from)) o e)
  fit_row (Adopt q) o fits e = fit_none o (none_turned (turn_at s.members p m moves.Adopt) o e)
  fit_row (Suspect q) o fits e = fit_none o (none_turned (turn_at s.members p m moves.Suspect) o e)
  fit_row (Conclude q) o fits e = fit_none o (none_turned (turn_at s.members p m moves.Conclude) o e)
  fit_row (Deliver _) o fits e = fit_none o (sym (ap (λ (x : Outcome). x.submitted) (deliver_row-is m o e).1))
  fit_row (Follow _) o fits e = fit_none o (sym (ap (λ (x : Outcome). x.submitted) (follow_row-is m o e).1))
  fit_row (Crash _) o fits e = fit_none o (sym (ap (λ (x : Outcome). x.submitted) (some-same (crash m) o e)))
  fit_row (Postpone q k) o fits e = fit_none o (none_lined k o e)
  fit_row (Lose q k) o fits e = fit_none o (none_lined k o e)
  fit_row (Repeat q k) o fits e = fit_none o (none_lined k o e)

-- ---- one step more

small_first : (s : Setting) (cells : ℕ) → IsSmall (empty s cells)
unfolding state_of first_state
small_first s cells =
    record { wires = λ x never. absurd never; letters = λ e never. absurd never; submitted = λ m never. absurd never }

module _ (w : Rehearsal) (step : Step) (some : 0 < w.setting.members) (law : IsLawful w) (small : IsSmall w)
    (allowed : cause w step ≡ None) (fits : StepFits step) where
  small_step : IsSmall (extended w step)
  unfolding FitAll
  small_step =
      let s = w.setting in
      let g = state_of w in
      let p = actor step in
      let free = cause-allowed w step law allowed in
      let t = next-is s g step free.after free.enabled in
      let o = t.outcome in
      let there : state_of (extended w step) ≡ after s g p o =
      state_of-push w step ∙ stepped-next s g free.after step free.enabled ∙ sym t.gives in
      let is : IsMember s.members p = member_is s.members p t.in_group in
      let own : member free.after p ≡ o.member =
      ap (λ h. member h p) (sym t.gives) ∙ member-same s g p o (in_members s g p law.size t.in_group) in
      let instances : o.member.last ≤ MAX_INSTANCES =
      subst (λ (m : Member). m.last ≤ MAX_INSTANCES) own (free.within.few_instances p) in
      let rounds : round_of o.member ≤ MAX_ROUNDS = subst (λ (m : Member). round_of m ≤ MAX_ROUNDS) own (free.within.few_rounds p) in
      let holds : Holds s g = Holds-run s w.steps g law.runs in
      let sound : (c : Standing) → (member g p).current ≡ Some c → c.ts ≤ c.round = λ c at. (holds.sound p is c at).ts_low in
      record {
        wires = λ x sent. elim (Sent-cases s g p o x (subst (λ h. Sent h x) there sent)) [
          | inl before ↦ small.wires x before
          | inr new ↦ small_row s g p (member g p) is small.wires sound step o t.row instances rounds x new
        ];
        letters = λ e h.
            let sent = ap (λ (z : State). z.sent) there ∙ after-sent s g p o in
            elim (IsIn-append_cases e g.sent (envelopes s.members o.mail) (subst (λ list. IsIn e list) sent h)) [
              | inl before ↦ small.letters e before
              | inr new ↦ to_members s g p (member g p) step o some t.row o.mail refl e new
            ];
        submitted = λ x h.
            let list = ap (λ (z : State). z.submitted) there ∙ after-submitted s g p o in
            elim (IsIn-append_cases x g.submitted o.submitted (subst (λ l. IsIn x l) list h)) [
              | inl before ↦ small.submitted x before
              | inr new ↦ fit_row s g p (member g p) step o fits t.row x new
            ];
      }

-- ---- all steps

-- the step at a place fits, and is the next one of the first steps
pub record HasNext (steps : List Step) (k : ℕ) : Type 0 where
  pub step : Step
  pub at : slice_get steps k ≡ Some step
  pub next : take (suc k) steps ≡ take k steps ++ step ∷ []
  pub fits : StepFits step

pub fit_at : (steps : List Step) (i : ℕ) (s : Step) → AllFit steps → slice_get steps i ≡ Some s → StepFits s
fit_at [] i s fit e = absurd (cc)
fit_at (x ∷ steps) zero s fit e = subst StepFits (some-same x s e) fit.0
fit_at (x ∷ steps) (suc i) s fit e = fit_at steps i s fit.1 e

pub has_next : (steps : List Step) (k : ℕ) → AllFit steps → k < length steps → HasNext steps k
has_next steps k fit h =
    let here = got steps k h in
    record { step = here.0; at = here.1; next = take_next steps k here.0 here.1; fits = fit_at steps k here.0 fit here.1 }

-- a record is lawful, and its numbers are small
pub record IsBounded (w : Rehearsal) : Type 0 where
  pub law : IsLawful w
  pub small : IsSmall w

-- so are its first steps
pub bounded_first : (s : Setting) (cells : ℕ) (steps : List Step) (count k : ℕ) → 0 < s.members → AllFit steps →
    AllowsFirst s cells steps count → k ≤ count → count ≤ length steps → IsBounded (first_steps s cells steps k)
bounded_first s cells steps count zero some fit allows low high = record { law = lawful-first s cells; small = small_first s cells }
bounded_first s cells steps count (suc k) some fit allows low high =
    let before = bounded_first s cells steps count k some fit allows (omega arith) high in
    let here = has_next steps k fit (omega arith) in
    let w = first_steps s cells steps k in
    let allowed : cause w here.step ≡ None = allows k here.step (omega arith) here.at in
    let longer : IsBounded (extended w here.step) = record {
      law = allowed-lawful w here.step before.law (cause-allowed w here.step before.law allowed);
      small = small_step w here.step some before.law before.small allowed here.fits;
    } in
    subst (λ l. IsBounded (record { setting = s; cells = cells; steps = l })) (sym here.next) longer
