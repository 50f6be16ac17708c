-- The lines of steps are those of their values, and these are mild.
use Rattle.std.proofs.Common.{◌≡◌, ℕ, zero, suc, ◌+◌, ◌-◌, ◌≤◌, ◌<◌, ◌^◌, Bool, true, false, List, [], ◌∷◌, ◌++◌, codes, Option, Some, None}
use Rattle.std.proofs.Common.{length, refl, sym, subst, arith, ap, ap₂, ◌∙◌, append-nil}
use Rattle.std.proofs.lemmas.List.{length-take-le}
use Rattle.std.specs.Option.{option_map_or}
use Rattle.std.specs.Prelude.{if◌then◌else◌, option_map, slice_get, flat_map}
use Rattle.std.proofs.lemmas.Grind.{flat_map-append}
use Rattle.serde_json.specs.Data.{Data}
use Rattle.ct_names.specs.declared.limit.TheConstants.{MAX_ENVELOPES, MAX_INSTANCES, MAX_ROUNDS}
use Rattle.ct_names.specs.declared.refusal.Refusal.{Refusal}
use Rattle.ct_names.specs.declared.refusal.Refusal.TheVariants.{NotWaiting}
use Rattle.ct_names.specs.Group.{counting}
use Rattle.ct_names.specs.Membership.{IsIn}
use Rattle.ct_names.specs.Value.{Value}
use Rattle.ct_names.proofs.Groups.{counting-range}
use Rattle.ct_model.specs.Actor.{actor}
use Rattle.ct_model.specs.AtValue.{Envelope, Wire}
use Rattle.ct_model.specs.declared.step.Step.{Step}
use Rattle.ct_model.specs.declared.step.Step.TheVariants.{Submit, Receive, Begin, Enter, Choose, Adopt, Suspect, Conclude, Deliver, Follow}
use Rattle.ct_model.specs.declared.step.Step.TheVariants.{Postpone, Lose, Repeat}
use Rattle.ct_model.specs.declared.wire.Wire.TheVariants.{Data as Message}
use Rattle.ct_model.specs.Mapped.{without_value, wire_map}
use Rattle.ct_model.specs.Rehearsal.{Rehearsal, extended, state_of}
use Rattle.ct_model.specs.State.{at_serial}
use Rattle.ct_model.proofs.Basics.Options.{some-none}
use Rattle.ct_records.specs.Fits.{AllFit, StepFits}
use Rattle.ct_records.specs.Replay.{IsAllowed, IsRefused}
use Rattle.ct_world.specs.Replay.{AllowsFirst, first_steps}
use Rattle.ct_world.specs.Standing.{estimate_by, heard_by}
use Rattle.ct_world.specs.World.{if_member, member_of}
use Rattle.ct_text.specs.Standing.{instance_of}
use Rattle.ct_show.specs.Facts.{last_taking}
use Rattle.ct_views.specs.declared.selection.Selection.{Selection}
use Rattle.ct_views.specs.Selected.{is_selected, first_lines, line_after}
use Rattle.ct_views.specs.Answer.{refused_line, refused_shown, shown_text}
use Rattle.ct_views.specs.declared.form.Form.TheVariants.{Json}
use Rattle.ct_views.specs.declared.view.View.TheVariants.{Steps}
use Rattle.ct_json.specs.Json.{messages_at}
use Rattle.ct_json.specs.JsonEnvelopes.{envelope_value, sent_fields}
use Rattle.ct_json.specs.JsonSteps.{argument_fields, batch, concluded_fields, decided_fields, delivered_fields, estimated_fields}
use Rattle.ct_json.specs.JsonSteps.{facts_fields, head_fields, held, instance_fields, leaving_fields, left_fields, letter_facts}
use Rattle.ct_json.specs.JsonSteps.{member_facts, message_fields, message_in, missing_fields, outcome_fields, proposal_fields}
use Rattle.ct_json.specs.JsonSteps.{refusal_fields, refused_value, round_fields, valued_fields, value_in, refused_json, step_json}
use Rattle.ct_json.specs.Fields.{line_text, lines_text}
use Rattle.ct_laws.specs.Facts.{HasLeft}
use Rattle.ct_laws.specs.Fitting.{IsFitting}
use Rattle.ct_laws.specs.JsonSteps.{asked_values, refused_values, shown_values, step_value, steps_values}
use Rattle.ct_laws.specs.JsonValues.{AreRead}
use Rattle.ct_laws.specs.Sessions.{lines_heard}
use Rattle.ct_laws.proofs.Finding.{Each, each_both, each_from}
use Rattle.ct_laws.proofs.Reasons.{has_left}
use Rattle.ct_laws.proofs.Values.Feedless.{lines_read}
use Rattle.ct_laws.proofs.Values.Bounded.{HasNext, fit_at, has_next}
use Rattle.ct_laws.proofs.Values.Mild.{AreMild, IsMild, both_mild, mild_by}
use Rattle.ct_laws.proofs.Values.ReportMild.{IsSized, messages_mild, sized_first}
use Rattle.ct_laws.proofs.Values.StateMild.{command_mild, coordinator_low, envelope_mild, estimate_field_mild, heard_low, own_low}
use Rattle.ct_laws.proofs.Values.StateMild.{part_mild, replies_mild, round_low, step_mild}

-- ---- lines

counting_more : (first k : ℕ) → counting first (suc k) ≡ counting first k ++ (first + k) ∷ []
counting_more first zero = ap (λ n. n ∷ []) (omega arith)
counting_more first (suc k) =
    let same : first + 1 + k ≡ first + suc k = omega arith in
    cc (counting_more (first + 1) k)

-- one more of the numbers from 0 on
counted_places : {A : Type 0} (f : ℕ → List A) (k : ℕ) → flat_map f (counting 0 (suc k)) ≡ flat_map f (counting 0 k) ++ f k
counted_places f k =
    let last : 0 + k ≡ k = omega arith in
    ap (flat_map f) (counting_more 0 k ∙ ap (λ n. counting 0 k ++ n ∷ []) last) ∙ flat_map-append f (counting 0 k) (k ∷ [])
    ∙ ap (λ t. flat_map f (counting 0 k) ++ t) (append-nil (f k))

line_alone : (d : Data) → line_text d ≡ lines_text (d ∷ [])
line_alone d = sym (append-nil (line_text d))

asked_lines : (b : Bool) (d : Data) → (if b then line_text d else []) ≡ lines_text (if b then d ∷ [] else [])
asked_lines true d = line_alone d
asked_lines false d = refl

asked_same : (selection : Selection) (w : Rehearsal) (place : ℕ) (o : Option Step) →
    line_after selection Json w place o ≡ lines_text (asked_values selection w place o)
unfolding step_json
asked_same selection w place None = refl
asked_same selection w place (Some step) = asked_lines (is_selected selection (place + 1) (actor step)) (step_value w (place + 1) step)

-- what is shown at a place
abbrev values_at : Selection → Rehearsal → ℕ → List Data
values_at selection w place = asked_values selection (first_steps w.setting w.cells w.steps place) place (slice_get w.steps place)

steps_same : (selection : Selection) (w : Rehearsal) (count : ℕ) →
    first_lines selection Json w.setting w.cells w.steps count ≡ lines_text (steps_values selection w count)
unfolding steps_values
steps_same selection w zero = refl
steps_same selection w (suc k) =
    let f = values_at selection w in
    ap₂ (λ x y. x ++ y) (steps_same selection w k)
    (asked_same selection (first_steps w.setting w.cells w.steps k) k (slice_get w.steps k))
    ∙ sym (ap lines_text (counted_places f k) ∙ flat_map-append line_text (flat_map f (counting 0 k)) (f k))

refused_lines : (w : Rehearsal) (number : ℕ) (o : Option Step) (refusal : Refusal) →
    refused_line Json w number o refusal ≡ lines_text (option_map_or (λ step. refused_value w number step refusal ∷ []) o [])
unfolding refused_json
refused_lines w number None refusal = refl
refused_lines w number (Some step) refusal = line_alone (refused_value w number step refusal)

shown_same : (selection : Selection) (w : Rehearsal) (number : ℕ) (refusal : Refusal) →
    refused_shown (Steps selection Json) w number refusal ≡ lines_text (shown_values selection w number refusal)
unfolding refused_values
shown_same selection w number refusal =
    ap₂ (λ x y. x ++ y) (steps_same selection w (number - 1))
    (refused_lines (first_steps w.setting w.cells w.steps (number - 1)) number (slice_get w.steps (number - 1)) refusal)
    ∙ sym (flat_map-append line_text (steps_values selection w (number - 1)) (refused_values w number refusal))

-- ---- steps

actor_low : (s : Step) → StepFits s → actor s ≤ 255
actor_low (Submit p c) h = h.0
actor_low _ h = h.0

head_mild : (k number : ℕ) (step : Step) → number < 2 ^ 64 → StepFits step → AreMild k (head_fields number step)
unfolding head_fields
head_mild k number step low fits = let p = actor_low step fits in (low, (omega arith, (tt, tt)))

valued_mild : (k : ℕ) (key : List ℕ) (at : ℕ) (v : Value) → at ≤ MAX_INSTANCES → AreMild (suc k) (valued_fields key at v)
unfolding instance_fields messages_at
valued_mild k key at v low = (omega arith, (messages_mild k v, tt))

wire_mild : (k : ℕ) (x : Wire) → AreMild k (message_fields (wire_map (λ _. tt) x))
wire_mild k (Message m) = (tt, tt)
wire_mild k _ = tt

message_mild : (k : ℕ) (o : Option Envelope) → AreMild k (message_in (option_map without_value o))
message_mild k None = tt
message_mild k (Some e) = wire_mild k e.wire

serial_fits : (steps : List Step) (n : ℕ) (s : Step) → AllFit steps → at_serial steps n ≡ Some s → StepFits s
serial_fits steps zero s fit at = absurd (cc)
serial_fits steps (suc i) s fit at = fit_at steps i s fit at

-- ---- what is told of a record

module _ (w : Rehearsal) (h : IsSized w) where
  instance_low : (p : ℕ) → instance_of w p ≤ MAX_INSTANCES
  unfolding instance_of
  instance_low p = let few = h.law.within.few_instances p in grind arith

  round_mild : (k p : ℕ) → AreMild k (round_fields w p)
  unfolding round_fields
  round_mild k p = omega (arith, instance_low p, round_low w h p, coordinator_low w h p)

  estimated_mild : (k p : ℕ) (o : Option (Value × ℕ)) → ((x : Value × ℕ) → o ≡ Some x → x.1 ≤ MAX_ROUNDS) →
      AreMild (suc (suc k)) (estimated_fields w p o)
  unfolding estimated_fields
  estimated_mild k p o low = search (both_mild, round_mild, estimate_field_mild)

  decided_in : (k p : ℕ) (b : Bool) → AreMild (suc k) (if b then [] else messages_at (codes "decided") (held w p))
  unfolding messages_at
  decided_in k p true = tt
  decided_in k p false = (messages_mild k (held w p), tt)

  concluded_mild : (k before p : ℕ) → AreMild (suc k) (concluded_fields w before p)
  unfolding concluded_fields decided_fields
  concluded_mild k before p = search (both_mild, round_mild, replies_mild, decided_in)

  proposal_mild : (k p : ℕ) → AreMild (suc k) (proposal_fields w p)
  unfolding proposal_fields
  proposal_mild k p = valued_mild k (codes "value") (instance_of w p) (held w p) (instance_low p)

  delivered_mild : (k p : ℕ) → AreMild (suc k) (delivered_fields w p)
  unfolding delivered_fields
  delivered_mild k p = valued_mild k (codes "delivered") (instance_of w p) (batch w (instance_of w p)) (instance_low p)

  outcome_mild : (k before : ℕ) (step : Step) → AreMild (suc (suc k)) (outcome_fields w before step)
  unfolding outcome_fields
  outcome_mild k before (Submit p c) = message_mild (suc (suc k)) (at_serial (state_of w).sent (before + 1))
  outcome_mild k before (Begin p) = proposal_mild (suc k) p
  outcome_mild k before (Enter p) = round_mild (suc (suc k)) p
  outcome_mild k before (Choose p from) = estimated_mild k p (if_member w p (heard_by (member_of w p) from)) (heard_low w h p from)
  outcome_mild k before (Adopt p) = estimated_mild k p (if_member w p (estimate_by (member_of w p))) (own_low w h p)
  outcome_mild k before (Suspect p) = estimated_mild k p (if_member w p (estimate_by (member_of w p))) (own_low w h p)
  outcome_mild k before (Conclude p) = concluded_mild (suc k) before p
  outcome_mild k before (Deliver p) = delivered_mild (suc k) p
  outcome_mild k before (Follow p) = delivered_mild (suc k) p
  outcome_mild k before _ = tt

  letter_mild : (k s : ℕ) → s ≤ 4294967295 → IsMild (suc (suc k)) (envelope_value w s)
  letter_mild k s low = envelope_mild w h k None s (omega arith) (λ p never. some-none p never)

  argument_mild : (k : ℕ) (step : Step) → StepFits step → AreMild (suc (suc k)) (argument_fields w step)
  unfolding argument_fields
  argument_mild k (Submit p c) fits = (command_mild (suc k) c fits.1, tt)
  argument_mild k (Choose p from) fits = let low = fits.1 in (omega arith, tt)
  argument_mild k (Receive p s) fits = (letter_mild k s fits.1, tt)
  argument_mild k (Postpone p s) fits = (letter_mild k s fits.1, tt)
  argument_mild k (Lose p s) fits = (letter_mild k s fits.1, tt)
  argument_mild k (Repeat p s) fits = (letter_mild k s fits.1, tt)
  argument_mild k _ fits = tt

  sent_mild : (k before : ℕ) → AreMild (suc (suc (suc k))) (sent_fields w before)
  unfolding sent_fields
  sent_mild k before =
      let ks = counting (before + 1) (length (state_of w).sent - before) in
      let each = mild_by (suc (suc k)) (λ s. s ≤ MAX_ENVELOPES) (envelope_value w) ks (each_from (λ s. s ≤ MAX_ENVELOPES) ks serial_low)
      (λ s low. letter_mild k s (omega arith)) in
      (each, tt)
    where
      serial_low : (s : ℕ) → IsIn s (counting (before + 1) (length (state_of w).sent - before)) → s ≤ MAX_ENVELOPES
      serial_low s i =
          omega (arith, counting-range (before + 1) (length (state_of w).sent - before) s i, h.law.within.few_envelopes)

  line_mild : (before number : ℕ) (step : Step) → number < 2 ^ 64 → StepFits step → IsMild 127 (value_in w before number step)
  unfolding value_in
  line_mild before number step low fits =
      let later = outcome_fields w before step ++ sent_fields w before in
      both_mild 126 (head_fields number step) (argument_fields w step ++ later) (head_mild 126 number step low fits)
      (both_mild 126 (argument_fields w step) later (argument_mild 124 step fits)
      (both_mild 126 (outcome_fields w before step) (sent_fields w before) (outcome_mild 124 before step) (sent_mild 123 before)))

  -- ---- a refused step

  left_mild : (k s : ℕ) (o : Option (ℕ × Step)) → last_taking w.steps s (length w.steps) ≡ o → AreMild (suc (suc (suc k))) (left_fields o)
  left_mild k s None is = tt
  left_mild k s (Some t) is =
      let last = subst (HasLeft w.steps s (length w.steps)) is (has_left w.steps s (length w.steps)) in
      let step = step_mild k t.1 (serial_fits w.steps t.0 t.1 h.fitting.fit last.there) in
      ((omega (arith, last.within, h.law.within.few_steps), (step, tt)), tt)

  leaving_mild : (k s : ℕ) (refusal : Refusal) → AreMild (suc (suc (suc k))) (leaving_fields w s refusal)
  leaving_mild k s NotWaiting = left_mild k s (last_taking w.steps s (length w.steps)) refl
  leaving_mild k s _ = tt

  letter_facts_mild : (k s : ℕ) (o : Option Envelope) (refusal : Refusal) →
      AreMild (suc (suc (suc k))) (letter_facts w s (option_map without_value o) refusal)
  unfolding missing_fields
  letter_facts_mild k s None refusal = let few = h.law.within.few_envelopes in (omega arith, tt)
  letter_facts_mild k s (Some e) refusal = leaving_mild k s refusal

  member_facts_mild : (k p : ℕ) → AreMild (suc (suc (suc k))) (member_facts w p)
  unfolding member_facts instance_fields
  member_facts_mild k p = let at = instance_low p in (omega arith, part_mild w h k p)

  facts_mild : (k : ℕ) (step : Step) (refusal : Refusal) → AreMild (suc (suc (suc k))) (facts_fields w step refusal)
  unfolding facts_fields
  facts_mild k (Receive p s) refusal = letter_facts_mild k s (at_serial (state_of w).sent s) refusal
  facts_mild k (Postpone p s) refusal = letter_facts_mild k s (at_serial (state_of w).sent s) refusal
  facts_mild k (Lose p s) refusal = letter_facts_mild k s (at_serial (state_of w).sent s) refusal
  facts_mild k (Repeat p s) refusal = letter_facts_mild k s (at_serial (state_of w).sent s) refusal
  facts_mild k step refusal = member_facts_mild k (actor step)

  refused_mild : (number : ℕ) (step : Step) (refusal : Refusal) → number < 2 ^ 64 → StepFits step →
      IsMild 127 (refused_value w number step refusal)
  unfolding refused_value refusal_fields
  refused_mild number step refusal low fits =
      let facts = refusal_fields refusal ++ facts_fields w step refusal in
      both_mild 126 (head_fields number step) (argument_fields w step ++ facts) (head_mild 126 number step low fits)
      (both_mild 126 (argument_fields w step) facts (argument_mild 124 step fits) (tt, facts_mild 123 step refusal))

-- ---- the steps of a record

asked_if : (b : Bool) (d : Data) → IsMild 127 d → Each (IsMild 127) (if b then d ∷ [] else [])
asked_if true d h = (h, tt)
asked_if false d h = tt

module _ (selection : Selection) (w : Rehearsal) (h : IsFitting w) (count : ℕ) (allows : AllowsFirst w.setting w.cells w.steps count)
    (within : count ≤ length w.steps) where
  place_mild : (place : ℕ) → place < count → Each (IsMild 127) (values_at selection w place)
  place_mild place low =
      let here : HasNext w.steps place = has_next w.steps place h.fit (omega arith) in
      let next : IsSized (first_steps w.setting w.cells w.steps (suc place)) =
      sized_first w count (suc place) h allows (omega arith) within in
      let v = first_steps w.setting w.cells w.steps place in
      let taken : IsSized (extended v here.step) =
      subst (λ l. IsSized (record { setting = w.setting; cells = w.cells; steps = l })) here.next next in
      let few = next.law.within.few_steps in
      let long = length-take-le (suc place) w.steps (omega arith) in
      subst (λ o. Each (IsMild 127) (asked_values selection v place o)) (sym here.at)
      (asked_if (is_selected selection (place + 1) (actor here.step)) (step_value v (place + 1) here.step)
      (line_mild (extended v here.step) taken (length (state_of v).sent) (place + 1) here.step (omega arith) here.fits))

  first_mild : (k : ℕ) → k ≤ count → Each (IsMild 127) (steps_values selection w k)
  unfolding steps_values
  first_mild zero low = tt
  first_mild (suc k) low =
      subst (λ l. Each (IsMild 127) l) (sym (counted_places (values_at selection w) k))
      (each_both (IsMild 127) (steps_values selection w k) (values_at selection w k) (first_mild k (omega arith))
      (place_mild k (omega arith)))

pub steps_read : (selection : Selection) (w : Rehearsal) → IsFitting w → IsAllowed w →
    AreRead (lines_heard (shown_text (Steps selection Json) w)) (steps_values selection w (length w.steps))
steps_read selection w h allows =
    subst (λ text. AreRead (lines_heard text) (steps_values selection w (length w.steps))) (sym (steps_same selection w (length w.steps)))
    (lines_read _ (first_mild selection w h (length w.steps) allows (omega arith) (length w.steps) (omega arith)))

refused_at : (w : Rehearsal) (number : ℕ) (o : Option Step) (refusal : Refusal) → IsSized w → number < 2 ^ 64 →
    ((s : Step) → o ≡ Some s → StepFits s) →
    Each (IsMild 127) (option_map_or (λ step. refused_value w number step refusal ∷ []) o [])
refused_at w number None refusal h low fits = tt
refused_at w number (Some step) refusal h low fits = (refused_mild w h number step refusal low (fits step refl), tt)

pub shown_read : (selection : Selection) (w : Rehearsal) (number : ℕ) (refusal : Refusal) → IsFitting w → IsRefused w number refusal →
    AreRead (lines_heard (refused_shown (Steps selection Json) w number refusal)) (shown_values selection w number refusal)
unfolding refused_values
shown_read selection w number refusal h refused =
    let place = number - 1 in
    let inside = refused.refused.within in
    let allows = refused.refused.before in
    let before : IsSized (first_steps w.setting w.cells w.steps place) = sized_first w place place h allows (omega arith) (omega arith) in
    let few = before.law.within.few_steps in
    let long = length-take-le place w.steps (omega arith) in
    let low : number < 2 ^ 64 = omega arith in
    subst (λ text. AreRead (lines_heard text) (shown_values selection w number refusal)) (sym (shown_same selection w number refusal))
    (lines_read _ (each_both (IsMild 127) (steps_values selection w place) (refused_values w number refusal)
    (first_mild selection w h place allows (omega arith) place (omega arith))
    (refused_at (first_steps w.setting w.cells w.steps place) number (slice_get w.steps place) refusal before low
    (λ s at. fit_at w.steps place s h.fit at))))
