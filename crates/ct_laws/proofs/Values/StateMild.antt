-- The values of a state are mild.
use Rattle.std.proofs.lemmas.Option.{cond_some}
use Rattle.std.proofs.Common.{◌≡◌, ℕ, zero, suc, ◌-◌, ◌≤◌, ◌<◌, ◌^◌, Bool, true, false, List, [], ◌∷◌, ◌++◌, codes, Option, Some, None}
use Rattle.std.proofs.Common.{length, replicate, refl, sym, ◌∙◌, subst, inl, inr, arith, eq-eqb}
use Rattle.std.specs.Option.{option_map_or, option_to_list}
use Rattle.std.specs.Prelude.{◌==◌, filter, find, if◌then◌else◌, is_none, option_and_then, option_map}
use Rattle.ct_names.specs.declared.command.Command.{Command}
use Rattle.ct_names.specs.declared.limit.TheConstants.{MAX_ENVELOPES, MAX_ROUNDS}
use Rattle.ct_names.specs.declared.refusal.Refusal.{Refusal}
use Rattle.ct_names.specs.Group.{IsMember, everyone, is_member, members}
use Rattle.ct_names.specs.MemberSet.{has_member}
use Rattle.ct_names.specs.Membership.{IsIn}
use Rattle.ct_names.specs.Value.{Value}
use Rattle.ct_names.proofs.Lists.{IsIn-append_cases, IsIn-map, both-left, found-find, list_any-found}
use Rattle.ct_model.specs.Actor.{actor}
use Rattle.ct_model.specs.AtValue.{Envelope, Standing, Wire}
use Rattle.ct_model.specs.Cause.{cause}
use Rattle.ct_model.specs.declared.phase.Phase.{Phase}
use Rattle.ct_model.specs.declared.step.Step.{Step}
use Rattle.ct_model.specs.declared.step.Step.TheVariants.{Choose, Receive, Suspect}
use Rattle.ct_model.specs.declared.wire.Wire.TheVariants.{Data as Message, Est, Prop, Ack, Nack, Dec}
use Rattle.ct_model.specs.Mapped.{without_value, wire_map}
use Rattle.ct_model.specs.Next.{next, own_ballots}
use Rattle.ct_model.specs.Received.{Heard, estimate_from, is_largest}
use Rattle.ct_model.specs.Rehearsal.{Rehearsal, line_of, state_of}
use Rattle.ct_model.specs.Senders.{senders, senders_from}
use Rattle.ct_model.specs.Setting.{Setting}
use Rattle.ct_model.specs.State.{State, at_serial, first_state, member}
use Rattle.ct_model.specs.StepText as steps
use Rattle.ct_model.specs.StepText.{Rest, command_entry, step_entry}
use Rattle.ct_model.specs.Waiting.{has_serial, serials_to}
use Rattle.ct_model.proofs.Basics.Groups.{coordinator_is, member_is}
use Rattle.ct_model.proofs.Basics.Options.{some-none, some-same}
use Rattle.ct_model.proofs.Basics.Serials.{serials_to-within}
use Rattle.ct_model.proofs.Consensus.Readings.{estimates-got}
use Rattle.ct_model.proofs.Relay.Messages.{next-is}
use Rattle.ct_records.specs.Fits.{CommandFits, RestFits, StepFits}
use Rattle.ct_records.specs.Values.{command_data, num, rest_data, step_data}
use Rattle.ct_records.proofs.Stored.{amount_fits}
use Rattle.ct_world.specs.Driving.{best_heard, candidates, next_local}
use Rattle.ct_world.specs.Standing.{estimate_by, heard_by}
use Rattle.ct_world.specs.World.{if_member, member_of}
use Rattle.ct_text.specs.Standing.{coordinator_of, round_of}
use Rattle.ct_show.specs.Own.{enabled_steps, first_choices, first_receipt, next_steps, own_steps, told_refusal}
use Rattle.ct_json.specs.Fields.{items_of}
use Rattle.ct_json.specs.Json.{counts_fields, group_fields, history_fields, messages_at, standing_fields}
use Rattle.ct_json.specs.JsonEnvelopes.{carried_fields, envelope_by, estimate_field, estimate_fields, letter_fields, sender_fields}
use Rattle.ct_json.specs.JsonEnvelopes.{vote_fields, wire_fields}
use Rattle.ct_json.specs.JsonParts.{heard_fields, heard_if, heard_value, heard_values, led_fields, part_fields, phase_fields, place_fields}
use Rattle.ct_json.specs.JsonParts.{replies_fields, set_field, set_value, set_values, votes_fields}
use Rattle.ct_json.specs.JsonState.{chances_fields, member_value, next_fields, refusal_value}
use Rattle.ct_json.specs.JsonState.{refusal_values, refused_fields, state_values, steps_fields, waiting_fields, waiting_value, whole_value}
use Rattle.ct_laws.proofs.Finding.{Each, each_both, each_from, each_map, each_one}
use Rattle.ct_laws.proofs.Records.{at_in}
use Rattle.ct_laws.proofs.Values.Bounded.{SmallWire}
use Rattle.ct_laws.proofs.Values.Mild.{AreMild, IsMild, ItemsAreMild, both_mild, each_counted}
use Rattle.ct_laws.proofs.Values.Mild.{mild_by, mild_flat}
use Rattle.ct_laws.proofs.Values.ReportMild.{IsSized, counts_mild, each_member, facts, got_small, group_mild, history_mild, messages_mild}
use Rattle.ct_laws.proofs.Values.ReportMild.{standing_mild}

-- ---- envelopes

estimate_mild : (k : ℕ) (v : Value) (ts : ℕ) → ts ≤ MAX_ROUNDS → AreMild (suc k) (estimate_fields v ts)
unfolding estimate_fields messages_at
estimate_mild k v ts low = (messages_mild k v, (omega arith, tt))

pub estimate_field_mild : (k : ℕ) (o : Option (Value × ℕ)) → ((x : Value × ℕ) → o ≡ Some x → x.1 ≤ MAX_ROUNDS) →
    AreMild (suc (suc k)) (estimate_field o)
unfolding estimate_field
estimate_field_mild k None h = tt
estimate_field_mild k (Some x) h = (estimate_mild k x.0 x.1 (h x refl), tt)

wire_mild : (k n : ℕ) (x : Wire) (v : Value) → n ≤ 16 → SmallWire n x → AreMild (suc k) (wire_fields (wire_map (λ _. tt) x) v)
unfolding wire_fields vote_fields messages_at
wire_mild k n (Message m) v few h = (tt, (tt, tt))
wire_mild k n (Est at r p u ts) v few h =
    (tt, (omega (arith, h.0), (omega (arith, h.1), (omega (arith, h.2), estimate_mild k v ts h.3))))
wire_mild k n (Prop at r u) v few h = (tt, (omega (arith, h.0), (omega (arith, h.1), (messages_mild k v, tt))))
wire_mild k n (Ack at r p) v few h = (tt, (omega (arith, h.0), (omega (arith, h.1), (omega (arith, h.2), tt))))
wire_mild k n (Nack at r p) v few h = (tt, (omega (arith, h.0), (omega (arith, h.1), (omega (arith, h.2), tt))))
wire_mild k n (Dec at r u) v few h = (tt, (omega (arith, h.0), (omega (arith, h.1), (messages_mild k v, tt))))

letter_mild : (k n : ℕ) (o : Option Envelope) (v : Value) → n ≤ 16 → ((e : Envelope) → o ≡ Some e → SmallWire n e.wire × (e.to ≤ n)) →
    AreMild (suc k) (letter_fields (option_map without_value o) v)
letter_mild k n None v few h = tt
letter_mild k n (Some e) v few h =
    let both = h e refl in let low : e.to ≤ n = both.1 in (omega arith, wire_mild k n e.wire v few both.0)

serial_in : {A : Type 0} (xs : List A) (k : ℕ) (x : A) → at_serial xs k ≡ Some x → IsIn x xs
serial_in xs zero x e = absurd (cc)
serial_in xs (suc k) x e = at_in xs k x e

sender_mild : (k : ℕ) (sender : Option ℕ) → ((p : ℕ) → sender ≡ Some p → p ≤ 16) → AreMild k (sender_fields sender)
sender_mild k None h = tt
sender_mild k (Some p) h = let low = h p refl in (omega arith, tt)

-- ---- who sent what

in_replicate : (k x y : ℕ) → IsIn x (replicate k y) → x ≡ y
in_replicate zero x y never = absurd never
in_replicate (suc k) x y (inl same) = same
in_replicate (suc k) x y (inr later) = in_replicate k x y later

senders_in : (s : Setting) (g : State) (ss : List Step) (p : ℕ) → IsIn p (senders_from s g ss) → IsMember s.members p
unfolding senders_from
senders_in s g [] p never = absurd never
senders_in s g (step ∷ ss) p h = go (next s g step) refl (λ mid i. senders_in s mid ss p i) h
  where
    go : (o : Option State) → next s g step ≡ o → ((mid : State) → IsIn p (senders_from s mid ss) → IsMember s.members p) →
        IsIn p (option_map_or (λ mid. replicate (length mid.sent - length g.sent) (actor step) ++ senders_from s mid ss) o []) →
        IsMember s.members p
    go None e later never = absurd never
    go (Some mid) e later i =
        elim (IsIn-append_cases p (replicate (length mid.sent - length g.sent) (actor step)) (senders_from s mid ss) i) [
          | inl own ↦ (let same = in_replicate _ p (actor step) own in
              subst (IsMember s.members) (sym same) (member_is s.members (actor step) (next-is s g step mid e).in_group))
          | inr others ↦ later mid others
        ]

-- ---- steps, as a record has them

pub command_mild : (k : ℕ) (c : Command) → CommandFits c → IsMild (suc k) (command_data c)
command_mild k c h =
    (tt, (omega (arith, h.0), (omega (arith, amount_fits (command_entry c).rest h.1), tt)))

rest_mild : (k : ℕ) (r : Rest) → RestFits r → ItemsAreMild (suc k) (rest_data r)
rest_mild k steps.nothing h = tt
rest_mild k (steps.number x) h = let few = amount_fits x h in (omega arith, tt)
rest_mild k (steps.command c) h = (command_mild k c h, tt)

pub step_mild : (k : ℕ) (s : Step) → StepFits s → IsMild (suc (suc k)) (step_data s)
step_mild k s h = let first = h.0 in (tt, (omega arith, rest_mild k (step_entry s).rest h.1))

own_fit : (p : ℕ) (choices : List Step) → p ≤ 255 → Each StepFits choices → Each StepFits (own_steps p choices)
own_fit p choices h fit =
    ((h, tt), ((h, tt), ((h, tt), each_both StepFits choices _ fit ((h, tt), ((h, tt), ((h, tt), ((h, tt), tt)))))))

choices_fit : (n p k : ℕ) → n ≤ 16 → k ≤ n → p ≤ 255 → Each StepFits (first_choices p k)
choices_fit n p zero few within low = tt
choices_fit n p (suc k) few within low =
    each_both StepFits (first_choices p k) (Choose p (suc k) ∷ []) (choices_fit n p k few (omega arith) low) ((low, omega arith), tt)

kept_one : (b : Bool) (step : Step) (steps : List Step) → StepFits step → Each StepFits steps →
    Each StepFits (if b then step ∷ steps else steps)
kept_one true step steps h i = (h, i)
kept_one false step steps h i = i

kept_fit : (test : Step → Bool) (steps : List Step) → Each StepFits steps → Each StepFits (filter test steps)
kept_fit test [] h = tt
kept_fit test (step ∷ steps) h = kept_one (test step) step (filter test steps) h.0 (kept_fit test steps h.1)

refusal_mild : (k : ℕ) (step : Step) (o : Option Refusal) → StepFits step →
    ItemsAreMild (suc (suc (suc k))) (items_of (option_map_or (λ refusal. refusal_value step refusal ∷ []) o []))
unfolding refusal_value
refusal_mild k step None h = tt
refusal_mild k step (Some refusal) h = ((step_mild k step h, (tt, tt)), tt)

next_fit : (own receipt : Option Step) → ((s : Step) → own ≡ Some s → StepFits s) → ((s : Step) → receipt ≡ Some s → StepFits s) →
    Each StepFits (next_steps own receipt)
next_fit None None h i = tt
next_fit None (Some r) h i = (i r refl, tt)
next_fit (Some (Suspect p)) None h i = (h (Suspect p) refl, tt)
next_fit (Some (Suspect p)) (Some r) h i = (h (Suspect p) refl, (i r refl, tt))
next_fit (Some s) receipt h i = (h s refl, tt)

-- ---- sets of members

inside_mild : (k q : ℕ) (b : Bool) → q ≤ 16 → ItemsAreMild k (items_of (if b then num q ∷ [] else []))
inside_mild k q true low = (omega arith, tt)
inside_mild k q false low = tt

set_mild : (k : ℕ) (key : List ℕ) (o : Option (List ℕ)) → AreMild (suc k) (set_field key o)
unfolding set_value members
set_mild k key None = tt
set_mild k key (Some set) =
    let each = each_counted 1 16 16 (omega arith) in
    (mild_flat k (IsMember 16) (set_values set) everyone each (λ q is. inside_mild k q (has_member set q) is.1), tt)

pub replies_mild : (k : ℕ) (w : Rehearsal) (p : ℕ) → AreMild (suc k) (replies_fields w p)
unfolding replies_fields
replies_mild k w p = search (both_mild, set_mild)

led_mild : (k p : ℕ) (b : Bool) → p ≤ 16 → AreMild k (if b then [] else ((codes "coordinator", num p) ∷ []))
led_mild k p true low = tt
led_mild k p false low = (omega arith, tt)

heard_mild : (k from : ℕ) (o : Option (Value × ℕ)) → from ≤ 16 → ((x : Value × ℕ) → o ≡ Some x → x.1 ≤ MAX_ROUNDS) →
    ItemsAreMild (suc (suc k)) (items_of (heard_if from o))
unfolding heard_value
heard_mild k from None low h = tt
heard_mild k from (Some x) low h = ((omega arith, estimate_mild k x.0 x.1 (h x refl)), tt)

-- ---- a member's part in its open instance

module _ (w : Rehearsal) (h : IsSized w) where
  abbrev n : ℕ
  n = w.setting.members

  few : n ≤ 16
  few = h.fitting.few_members

  -- an estimate that a member heard for its round
  estimate_small : (p : ℕ) → IsMember w.setting.members p → (c : Standing) (e : Heard Value) →
      IsIn e (own_ballots (member (state_of w) p) c).estimates → (e.member ≤ w.setting.members) × (e.ts ≤ MAX_ROUNDS)
  estimate_small p is c e i =
      let m = member (state_of w) p in
      let small = got_small w h p is (Est m.last c.round e.member e.value e.ts) (estimates-got m.got m.last c.round e i) in
      (small.2, small.3)

  round_small : (p : ℕ) (c : Standing) → (member (state_of w) p).current ≡ Some c → c.round ≤ MAX_ROUNDS
  round_small p c at =
      let low = h.law.within.few_rounds p in
      subst (λ (o : Option Standing). option_map_or (λ (x : Standing). x.round) o 0 ≤ MAX_ROUNDS) at low

  ts_small : (p : ℕ) → IsMember w.setting.members p → (c : Standing) → (member (state_of w) p).current ≡ Some c → c.ts ≤ MAX_ROUNDS
  ts_small p is c at =
      let low = ((facts w h).sound p is c at).ts_low in
      let round = round_small p c at in
      omega arith

  -- what is told of the open instance of a member
  told_low : {A : Type 0} (P : A → Type 0) (of : Option Standing → Option A) (p : ℕ) → of None ≡ None →
      ((c : Standing) → IsMember n p → (member (state_of w) p).current ≡ Some c → (x : A) → of (Some c) ≡ Some x → P x) →
      (x : A) → if_member w p (of (member (state_of w) p).current) ≡ Some x → P x
  told_low P of p none there x e = go (is_member n p) (member (state_of w) p).current refl refl
    where
      go : (b : Bool) (o : Option Standing) → is_member n p ≡ b → (member (state_of w) p).current ≡ o → P x
      go false o group at = some-none x (rw group at e)
      go true None group at = some-none x (sym none ∙ (rw (group, at) at e))
      go true (Some c) group at = there c (member_is n p group) at x (rw (group, at) at e)

  pub own_low : (p : ℕ) (x : Value × ℕ) → if_member w p (estimate_by (member_of w p)) ≡ Some x → x.1 ≤ MAX_ROUNDS
  own_low p =
      told_low (λ (x : Value × ℕ). x.1 ≤ MAX_ROUNDS) (option_map (λ c. (c.estimate, c.ts))) p refl
      (λ c is at x e. subst (λ (y : Value × ℕ). y.1 ≤ MAX_ROUNDS) (some-same (c.estimate, c.ts) x e) (ts_small p is c at))

  pub heard_low : (p from : ℕ) (x : Value × ℕ) → if_member w p (heard_by (member_of w p) from) ≡ Some x → x.1 ≤ MAX_ROUNDS
  heard_low p from =
      told_low (λ (x : Value × ℕ). x.1 ≤ MAX_ROUNDS)
      (option_and_then (λ c. option_map (λ e. (e.value, e.ts)) (estimate_from (own_ballots (member_of w p) c) from))) p refl
      (λ c is at x e. of_heard c is x (estimate_from (own_ballots (member (state_of w) p) c) from) refl e)
    where
      of_heard : (c : Standing) → IsMember n p → (x : Value × ℕ) (o : Option (Heard Value)) →
          estimate_from (own_ballots (member (state_of w) p) c) from ≡ o →
          option_map (λ (y : Heard Value). (y.value, y.ts)) o ≡ Some x → x.1 ≤ MAX_ROUNDS
      of_heard c is x None at same = some-none x same
      of_heard c is x (Some y) at same =
          let t = own_ballots (member (state_of w) p) c in
          let inside = (found-find (λ (z : Heard Value). z.member == from) y t.estimates at).0 in
          subst (λ (z : Value × ℕ). z.1 ≤ MAX_ROUNDS) (some-same (y.value, y.ts) x same) (estimate_small p is c y inside).1

  place_low : (p : ℕ) (r : ℕ × Phase) → if_member w p (option_map (λ c. (c.round, c.phase)) (member_of w p).current) ≡ Some r →
      r.0 ≤ MAX_ROUNDS
  place_low p =
      told_low (λ (r : ℕ × Phase). r.0 ≤ MAX_ROUNDS) (option_map (λ c. (c.round, c.phase))) p refl
      (λ c is at r e. subst (λ (y : ℕ × Phase). y.0 ≤ MAX_ROUNDS) (some-same (c.round, c.phase) r e) (round_small p c at))

  pub round_low : (p : ℕ) → round_of w p ≤ MAX_ROUNDS
  unfolding round_of
  round_low p = let low = place_low p in grind arith

  pub coordinator_low : (p : ℕ) → coordinator_of w p ≤ 16
  unfolding coordinator_of
  coordinator_low p = omega (arith, few, (coordinator_is w.setting.members (round_of w p) h.fitting.some_members).1)

  votes_mild : (k p : ℕ) → AreMild (suc (suc (suc k))) (votes_fields w p)
  unfolding votes_fields heard_fields
  votes_mild k p =
      let deep = suc (suc (suc k)) in
      let heard = mild_flat (suc (suc k)) (IsMember n) (heard_values w p) (members n) (each_member w h)
      (λ q is. let low : q ≤ n = is.1 in
      heard_mild k q (if_member w p (heard_by (member_of w p) q)) (omega (arith, few)) (heard_low p q)) in
      both_mild deep (estimate_field (if_member w p (estimate_by (member_of w p)))) (heard_fields w p ++ replies_fields w p)
      (estimate_field_mild (suc k) (if_member w p (estimate_by (member_of w p))) (own_low p)) (heard, replies_mild (suc (suc k)) w p)

  place_mild : (k p : ℕ) (o : Option (ℕ × Phase)) → ((r : ℕ × Phase) → o ≡ Some r → r.0 ≤ MAX_ROUNDS) →
      AreMild (suc (suc (suc k))) (place_fields w p o)
  unfolding phase_fields
  place_mild k p None low = tt
  place_mild k p (Some r) low =
      let deep = suc (suc (suc k)) in
      let round = low r refl in
      let led = led_fields r.0 (coordinator_of w p) in
      let votes = votes_fields w p in
      both_mild deep (phase_fields r.0 r.1) (led ++ votes) (omega arith, (tt, tt))
      (both_mild deep led votes (led_mild deep (coordinator_of w p) (r.0 == 0) (coordinator_low p)) (votes_mild k p))

  pub part_mild : (k p : ℕ) → AreMild (suc (suc (suc k))) (part_fields w p)
  unfolding part_fields
  part_mild k p = place_mild k p (if_member w p (option_map (λ c. (c.round, c.phase)) (member_of w p).current)) (place_low p)

  -- ---- what waits, and what a member may do

  sent_small : (k : ℕ) (e : Envelope) → at_serial (state_of w).sent k ≡ Some e →
      SmallWire w.setting.members e.wire × (e.to ≤ w.setting.members)
  sent_small k e at =
      let i = serial_in (state_of w).sent k e at in
      (h.small.wires e.wire (IsIn-map (λ (x : Envelope). x.wire) e (state_of w).sent i), (h.small.letters e i).1)

  pub envelope_mild : (k : ℕ) (sender : Option ℕ) (s : ℕ) → s < 2 ^ 64 → ((p : ℕ) → sender ≡ Some p → p ≤ 16) →
      IsMild (suc (suc k)) (envelope_by sender w s)
  unfolding envelope_by carried_fields
  envelope_mild k sender s low from = (
    low,
    both_mild (suc k) (carried_fields w s) (sender_fields sender)
        (letter_mild k n (at_serial (state_of w).sent s) _ few (sent_small s)) (sender_mild (suc k) sender from),
  )

  line_low : (p k : ℕ) → IsIn k (line_of w p) → k ≤ MAX_ENVELOPES
  line_low p k i =
      let waits : has_serial k (line_of w p) ≡ true = list_any-found (λ other. other == k) k (line_of w p) i (eq-eqb k k refl) in
      let was = both-left (has_serial k (serials_to p 0 (state_of w).sent)) _ (sym (h.law.waits p k) ∙ waits) in
      omega (arith, serials_to-within p 0 k (state_of w).sent was, h.law.within.few_envelopes)

  sender_low : (k p : ℕ) → at_serial (senders w.setting w.steps) k ≡ Some p → p ≤ 16
  unfolding senders
  sender_low k p at =
      let is = senders_in w.setting (first_state w.setting) w.steps p (serial_in (senders w.setting w.steps) k p at) in
      omega (arith, few, is.1)

  waiting_mild : (k p : ℕ) → AreMild (suc (suc (suc k))) (waiting_fields w (senders w.setting w.steps) (line_of w p))
  unfolding waiting_fields
  waiting_mild k p =
      let from = senders w.setting w.steps in
      let each = mild_by (suc (suc k)) (λ s. s ≤ MAX_ENVELOPES) (waiting_value w from) (line_of w p)
      (each_from (λ s. s ≤ MAX_ENVELOPES) (line_of w p) (line_low p))
      (λ s low. envelope_mild k (at_serial from s) s (omega arith) (sender_low s)) in
      (each, tt)

  module _ (p : ℕ) (is : IsMember w.setting.members p) where
    low : p ≤ 255
    low = let up : p ≤ n = is.1 in omega (arith, few)

    steps_mild : (k : ℕ) → AreMild (suc (suc (suc (suc k)))) (steps_fields w p)
    unfolding steps_fields enabled_steps refused_fields
    steps_mild k =
        let all = own_steps p (first_choices p n) in
        let one = own_steps p (Choose p p ∷ []) in
        let fit : Each StepFits (enabled_steps w p) =
        kept_fit (λ step. is_none (cause w step)) all (own_fit p (first_choices p n) low (choices_fit n p n few (omega arith) low)) in
        let own : Each StepFits one = own_fit p (Choose p p ∷ []) low ((low, low), tt) in (
          mild_by (suc (suc (suc k))) StepFits step_data (enabled_steps w p) fit (step_mild (suc k)),
          (
            mild_flat (suc (suc (suc k))) StepFits (refusal_values w) one own (λ s fits. refusal_mild k s (told_refusal w s) fits),
            tt,
          ),
        )

    -- the best estimate that was heard is of a member
    best_fit : (c : Standing) (o : Option (Heard Value)) →
        find (λ (e : Heard Value). is_largest (own_ballots (member (state_of w) p) c) e.ts)
        (own_ballots (member (state_of w) p) c).estimates ≡ o →
        Each StepFits (option_to_list (option_map (Choose p) (option_map (λ (e : Heard Value). e.member) o)))
    best_fit c None e = tt
    best_fit c (Some x) e =
        let t = own_ballots (member (state_of w) p) c in
        let small = estimate_small p is c x (found-find (λ (y : Heard Value). is_largest t y.ts) x t.estimates e).0 in
        ((low, omega (arith, few, small.0)), tt)

    heard_fit : (o : Option Standing) →
        Each StepFits (option_to_list (option_map (Choose p) (best_heard (record (member (state_of w) p) { current = o }))))
    heard_fit None = tt
    heard_fit (Some c) = best_fit c _ refl

    candidates_fit : Each StepFits (candidates p (member (state_of w) p))
    candidates_fit = (
      (low, tt),
      (
        (low, tt),
        (
          (low, tt),
          each_both StepFits _ _ (heard_fit (member (state_of w) p).current)
              ((low, tt), ((low, tt), ((low, tt), ((low, tt), tt)))),
        ),
      ),
    )

    local_fit : (s : Step) → next_local w p ≡ Some s → StepFits s
    local_fit s e =
        each_one StepFits (candidates p (member (state_of w) p)) s candidates_fit
        (found-find (λ step. is_none (cause w step)) s (candidates p (member (state_of w) p)) e).0

    receipt_fit : (line : List ℕ) → ((k : ℕ) → IsIn k line → k ≤ MAX_ENVELOPES) → (s : Step) → first_receipt w p line ≡ Some s → StepFits s
    receipt_fit [] small s e = absurd (cc)
    receipt_fit (k ∷ line) small s e =
        let most = small k (inl refl) in
        subst StepFits (cond_some (is_none (cause w (Receive p k))) (Receive p k) s e).1 (low, omega arith)

    next_mild : (k : ℕ) → AreMild (suc (suc (suc k))) (next_fields w p)
    unfolding next_fields
    next_mild k =
        let each = mild_by (suc (suc k)) StepFits step_data (next_steps (next_local w p) (first_receipt w p (line_of w p)))
        (next_fit (next_local w p) (first_receipt w p (line_of w p)) local_fit (receipt_fit (line_of w p) (line_low p))) (step_mild k) in
        (each, tt)

    chances_mild : (k : ℕ) → AreMild (suc (suc (suc (suc k)))) (chances_fields w (senders w.setting w.steps) p)
    unfolding chances_fields
    chances_mild k = search (both_mild, waiting_mild, steps_mild, next_mild)

    member_mild : IsMild 127 (member_value w (senders w.setting w.steps) p)
    unfolding member_value
    member_mild =
        let chances = chances_fields w (senders w.setting w.steps) p in
        both_mild 126 (standing_fields w p) (part_fields w p ++ (history_fields w p ++ chances)) (standing_mild w h 126 p is)
        (both_mild 126 (part_fields w p) (history_fields w p ++ chances) (part_mild 123 p)
        (both_mild 126 (history_fields w p) chances (history_mild w h 123 p is) (chances_mild 122)))

  pub state_mild : Each (IsMild 127) (state_values w (senders w.setting w.steps))
  unfolding state_values whole_value
  state_mild = (
    both_mild 126 (group_fields w) (counts_fields w) (group_mild w h 126) (counts_mild w h 126),
    each_map (IsMember n) (IsMild 127) (member_value w (senders w.setting w.steps)) (members n) (each_member w h) member_mild,
  )
