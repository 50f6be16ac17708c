-- The value of a report is mild.
use Rattle.std.proofs.Common.{◌≡◌, ℕ, zero, suc, ◌≤◌, ◌<◌, ◌^◌, List, [], ◌∷◌, ◌++◌, Option, Some, None, length, take, refl}
use Rattle.std.proofs.Common.{subst, inl, inr, arith}
use Rattle.std.proofs.lemmas.List.{take_all}
use Rattle.std.specs.Option.{option_map_or}
use Rattle.std.specs.Prelude.{⊤, unwrap_or}
use Rattle.ct_names.specs.declared.command.Command.{Command}
use Rattle.ct_names.specs.declared.command.Command.TheVariants.{Set, Add, Copy}
use Rattle.ct_names.specs.declared.limit.TheConstants.{MAX_INSTANCES, REGISTERS}
use Rattle.ct_names.specs.Group.{IsMember, counting, members}
use Rattle.ct_names.specs.Membership.{IsIn}
use Rattle.ct_names.specs.Message.{Message}
use Rattle.ct_names.specs.Value.{Value}
use Rattle.ct_model.specs.AtValue.{Wire}
use Rattle.ct_model.specs.declared.step.Step.{Step}
use Rattle.ct_model.specs.declared.wire.Wire.TheVariants.{Dec}
use Rattle.ct_model.specs.Lawful.{IsLawful}
use Rattle.ct_model.specs.Received.{decided}
use Rattle.ct_model.specs.Rehearsal.{Rehearsal, state_of}
use Rattle.ct_model.specs.Safe.{delivered_by}
use Rattle.ct_model.specs.State.{member}
use Rattle.ct_model.proofs.Consensus.Facts.{Holds}
use Rattle.ct_model.proofs.Consensus.Readings.{decided-got}
use Rattle.ct_model.proofs.Consensus.Runs.{Holds-run}
use Rattle.ct_model.proofs.Delivery.Safety.{safe-run}
use Rattle.ct_records.specs.Fits.{AllFit, CommandFits}
use Rattle.ct_records.specs.Replay.{IsAllowed}
use Rattle.ct_table.specs.Table.{applied, applied_all, table, zeros}
use Rattle.ct_world.specs.Decided.{last_decided}
use Rattle.ct_world.specs.Replay.{AllowsFirst, first_steps}
use Rattle.ct_json.specs.Fields.{items_of}
use Rattle.ct_json.specs.Json.{counts_fields, decision_value, decision_values, decisions_fields, group_fields, history_fields, member_value}
use Rattle.ct_json.specs.Json.{members_fields, message_value, messages_at, messages_value, register_value, report_value, standing_fields}
use Rattle.ct_json.specs.Json.{table_fields}
use Rattle.ct_laws.specs.Fitting.{IsFitting}
use Rattle.ct_laws.proofs.Finding.{Each, each_any, each_get, each_replicate, each_set}
use Rattle.ct_laws.proofs.Values.Bounded.{IsSmall, SmallWire, bounded_first}
use Rattle.ct_laws.proofs.Values.Mild.{AreMild, IsMild, ItemsAreMild, both_mild, each_counted, mild_by, mild_flat}

-- ---- records whose numbers are within the limits

pub record IsSized (w : Rehearsal) : Type 0 where
  pub fitting : IsFitting w
  pub law : IsLawful w
  pub small : IsSmall w

fit_first : (steps : List Step) (k : ℕ) → AllFit steps → AllFit (take k steps)
fit_first steps zero h = tt
fit_first [] (suc k) h = tt
fit_first (step ∷ steps) (suc k) h = (h.0, fit_first steps k h.1)

pub fitting_first : (w : Rehearsal) (k : ℕ) → IsFitting w → IsFitting (first_steps w.setting w.cells w.steps k)
fitting_first w k h = record {
  some_members = h.some_members;
  few_members = h.few_members;
  few_bound = h.few_bound;
  few_cells = h.few_cells;
  fit = fit_first w.steps k h.fit;
}

-- the first steps of a record, as many as are allowed
pub sized_first : (w : Rehearsal) (count k : ℕ) → IsFitting w → AllowsFirst w.setting w.cells w.steps count → k ≤ count →
    count ≤ length w.steps
    → IsSized (first_steps w.setting w.cells w.steps k)
sized_first w count k h allows low high =
    let b = bounded_first w.setting w.cells w.steps count k h.some_members h.fit allows low high in
    record { fitting = fitting_first w k h; law = b.law; small = b.small }

-- and all of them
pub sized : (w : Rehearsal) → IsFitting w → IsAllowed w → IsSized w
sized w h allows =
    subst (λ l. IsSized (record w { steps = l })) (take_all (length w.steps) w.steps (omega arith))
    (sized_first w (length w.steps) (length w.steps) h allows (omega arith) (omega arith))

-- ---- messages, decisions and tables

pub messages_mild : (k : ℕ) (messages : List Message) → IsMild (suc k) (messages_value messages)
unfolding messages_value
messages_mild k messages = mild_by k (λ m. ⊤) message_value messages (each_any messages) (λ m h. tt)

pub messages_at_mild : (k : ℕ) (key : List ℕ) (messages : List Message) → AreMild (suc k) (messages_at key messages)
unfolding messages_at
messages_at_mild k key messages = (messages_mild k messages, tt)

decided_mild : (k at : ℕ) (o : Option Value) → ((v : Value) → o ≡ Some v → at ≤ MAX_INSTANCES) →
    ItemsAreMild (suc (suc k)) (items_of (option_map_or (λ v. decision_value at v ∷ []) o []))
unfolding decision_value
decided_mild k at None h = tt
decided_mild k at (Some v) h = let low = h v refl in ((omega arith, (messages_mild k v, tt)), tt)

decisions_mild : (k : ℕ) (got : List Wire) → ((at r : ℕ) (v : Value) → IsIn (Dec at r v) got → at ≤ MAX_INSTANCES) →
    AreMild (suc (suc (suc k))) (decisions_fields got)
unfolding decisions_fields
decisions_mild k got h =
    let ks = counting 1 (unwrap_or (last_decided got) 0) in
    let each = mild_flat (suc (suc k)) (λ at. ⊤) (decision_values got) ks (each_any ks)
    (λ at t. decided_mild k at (decided got at) (λ v e. let d = decided-got got at v e in h at d.round v d.is_in)) in
    (each, tt)

-- each register holds a word
abbrev AreWords : List ℕ → Type 0
AreWords values = Each (λ n. n < 2 ^ 64) values

applied_words : (values : List ℕ) (c : Command) → AreWords values → CommandFits c → AreWords (applied values c)
applied_words values (Set register n) h fits = let few = fits.1 in each_set (λ n. n < 2 ^ 64) values register n h (omega arith)
applied_words values (Add register n) h fits = each_set (λ n. n < 2 ^ 64) values register _ h (omega arith)
applied_words values (Copy from to) h fits =
    each_set (λ n. n < 2 ^ 64) values to _ h (each_get (λ n. n < 2 ^ 64) values from 0 h (omega arith))

all_applied_words : (values : List ℕ) (messages : List Message) → AreWords values →
    ((m : Message) → IsIn m messages → CommandFits m.command)
    → AreWords (applied_all values messages)
all_applied_words values [] h fits = h
all_applied_words values (m ∷ messages) h fits =
    all_applied_words (applied values m.command) messages (applied_words values m.command h (fits m (inl refl))) (λ x i. fits x (inr i))

table_mild : (k : ℕ) (messages : List Message) → ((m : Message) → IsIn m messages → CommandFits m.command) →
    AreMild (suc k) (table_fields (table messages))
unfolding table_fields
table_mild k messages fits =
    let each = mild_by k (λ r. ⊤) (register_value (table messages)) (counting 0 REGISTERS) (each_any (counting 0 REGISTERS))
    (λ r t. each_get (λ n. n < 2 ^ 64) (table messages) r 0
    (all_applied_words zeros messages (each_replicate (λ n. n < 2 ^ 64) 16 0 (omega arith)) fits) (omega arith)) in
    (each, tt)

-- ---- a member, and the whole

module _ (w : Rehearsal) (h : IsSized w) where
  pub facts : Holds w.setting (state_of w)
  facts = Holds-run w.setting w.steps (state_of w) h.law.runs

  -- what a member got
  pub got_small : (p : ℕ) → IsMember w.setting.members p → (x : Wire) → IsIn x (member (state_of w) p).got → SmallWire w.setting.members x
  got_small p is x i = h.small.wires x (facts.got p is x i)

  pub history_mild : (k p : ℕ) → IsMember w.setting.members p → AreMild (suc (suc (suc k))) (history_fields w p)
  unfolding history_fields
  history_mild k p is =
      let safe = safe-run w.setting w.steps (state_of w) h.law.runs in
      let fits : (m : Message) → IsIn m (delivered_by (state_of w) p) → CommandFits m.command =
      λ m i. h.small.submitted m (safe.submitted p m is i) in
      let low : (at r : ℕ) (v : Value) → IsIn (Dec at r v) (member (state_of w) p).got → at ≤ MAX_INSTANCES =
      λ at r v i. (got_small p is (Dec at r v) i).0 in
      search (both_mild, messages_at_mild, decisions_mild, table_mild, fits, low)

  pub standing_mild : (k p : ℕ) → IsMember w.setting.members p → AreMild k (standing_fields w p)
  unfolding standing_fields
  standing_mild k p is = omega (arith, is.1, h.fitting.few_members, h.law.within.few_instances p)

  pub group_mild : (k : ℕ) → AreMild k (group_fields w)
  unfolding group_fields
  group_mild k = omega (arith, h.fitting.few_members, h.fitting.few_cells, h.fitting.few_bound)

  pub counts_mild : (k : ℕ) → AreMild k (counts_fields w)
  unfolding counts_fields
  counts_mild k =
      omega (arith, h.law.within.few_steps, h.law.within.few_envelopes, h.law.within.few_batches, h.fitting.few_cells)

  member_mild : (k p : ℕ) → IsMember w.setting.members p → IsMild (suc (suc (suc (suc k)))) (member_value w p)
  unfolding member_value
  member_mild k p is = search (both_mild, standing_mild, history_mild)

  pub each_member : Each (IsMember w.setting.members) (members w.setting.members)
  unfolding members
  each_member = each_counted 1 w.setting.members w.setting.members (omega arith)

  pub report_mild : IsMild 127 (report_value w)
  unfolding report_value members_fields
  report_mild =
      both_mild 126 (group_fields w) (counts_fields w ++ members_fields w) (group_mild 126)
      (both_mild 126 (counts_fields w) (members_fields w) (counts_mild 126)
      (mild_by 125 (IsMember w.setting.members) (member_value w) (members w.setting.members) each_member (member_mild 121), tt))
