-- The tests and limits of a step, whichever it is.
use Rattle.std.proofs.Common.{◌≡◌, ◌≢◌, ℕ, ◌+◌, ◌-◌, ◌≤◌, Bool, true, false, not, List, [], ◌∷◌, length, refl, ap, sym, ◌∙◌, arith, Some}
use Rattle.std.proofs.Common.{None, inl, inr}
use Rattle.std.specs.Prelude.{nat_lt, ◌++◌, if◌then◌else◌}
use Rattle.std.proofs.lemmas.Bool.{cases_eq}
use Rattle.std.proofs.lemmas.List.{append-nil}
use Rattle.ct_names.specs.declared.limit.TheConstants.{MAX_ENVELOPES, MAX_INSTANCES, MAX_ROUNDS, MAX_STEPS, MAX_SUBMISSIONS}
use Rattle.ct_names.specs.declared.limit.Limit.TheVariants.{Submissions, Instances, Rounds, Envelopes, Cells, Steps}
use Rattle.ct_names.specs.declared.refusal.Refusal.{Refusal}
use Rattle.ct_names.specs.declared.refusal.Refusal.TheVariants.{Full}
use Rattle.ct_model.specs.declared.step.Step.{Step}
use Rattle.ct_model.specs.Actor.{actor}
use Rattle.ct_model.specs.Setting.{Setting}
use Rattle.ct_model.specs.State.{State, Member, member, submissions}
use Rattle.ct_model.specs.Next.{Outcome, row, after}
use Rattle.ct_model.specs.Rehearsal.{Rehearsal, state_of, line_of}
use Rattle.ct_model.specs.Wire.{envelopes}
use Rattle.ct_model.specs.Cause.{Test, at, first_fault, tests, limits, limit, or_else, cause, overflow, order, round_of}
use Rattle.ct_model.specs.Lawful.{IsWithin, IsLawful, IsPresent, NamesWaiting}
use Rattle.ct_model.proofs.Basics.Tests.{false_not}
use Rattle.ct_model.proofs.Record.Frame.{after-submitted, length-after-sent, order-kept, member-same, member-other, at_place}
use Rattle.ct_model.proofs.Record.Frame.{submissions-append, submissions-next, submissions-none}
use Rattle.ct_model.proofs.Record.Causes.{own_tests, cause-present, cause-none, IsKept, first_fault-none, low, overflow-is}
use Rattle.ct_model.proofs.Record.Taken.{IsTaken, next-row}
use Rattle.ct_model.proofs.Relay.Messages.{in_members}

-- the tests of its own that a step has
pub own_tests-is : (w : Rehearsal) (step : Step) → own_tests w step
    ≡ tests w.setting (state_of w) (member (state_of w) (actor step)) (line_of w (actor step)) step
own_tests-is w step = unfold own_tests in refl

-- the first of them that fires is the cause, and where none does, the limit is
pub cause-tested : (w : Rehearsal) (step : Step) (r : Refusal) → IsPresent w (actor step) → first_fault (own_tests w step) ≡ Some r →
    cause w step ≡ Some r
cause-tested w step r present e = cause-present w step present ∙ ap (λ o. or_else o (limit w step)) e

pub cause-limited : (w : Rehearsal) (step : Step) → IsPresent w (actor step) → first_fault (own_tests w step) ≡ None →
    cause w step ≡ limit w step
cause-limited w step present e = cause-present w step present ∙ ap (λ o. or_else o (limit w step)) e

-- a step that has one test
module _ (w : Rehearsal) (step : Step) (r : Refusal) (b : Bool)
    (one : tests w.setting (state_of w) (member (state_of w) (actor step)) (line_of w (actor step)) step ≡ at r (not b) ∷ []) where
  first_is : (c : Bool) → b ≡ c → first_fault (own_tests w step) ≡ (if not c then Some r else None)
  first_is c e = ap first_fault (own_tests-is w step ∙ one) ∙ ap (λ x. if not x then Some r else None) e

  pub cause-failed : IsPresent w (actor step) → b ≡ false → cause w step ≡ Some r
  cause-failed present e = cause-tested w step r present (first_is false e)

  pub cause-passed : IsPresent w (actor step) → b ≡ true → cause w step ≡ limit w step
  cause-passed present e = cause-limited w step present (first_is true e)

  pub passed-free : cause w step ≡ None → b ≡ true
  passed-free none = false_not b (first_fault-none (at r (not b)) [] (sym (first_is b refl) ∙ (cause-none w step none).tested)).0

-- the limits of a step with this outcome are tested on the state after it
pub limit-of : (w : Rehearsal) (step : Step) (o : Outcome) → IsPresent w (actor step) →
    row w.setting (state_of w) (actor step) (member (state_of w) (actor step)) step ≡ Some o →
    limit w step ≡ first_fault (limits w.cells (length w.steps + 1) (after w.setting (state_of w) (actor step) o) (actor step))
unfolding limit
limit-of w step o present e = grind (arith, next-row w.setting (state_of w) step o present.in_group present.up e)

-- nobody submits but the actor

pub row-submits : (s : Setting) (g : State) (p : ℕ) (m : Member) (step : Step) (o : Outcome) → row s g p m step ≡ Some o → (q : ℕ) → q ≢ p
    → submissions o.submitted q ≡ 0
row-submits s g p m step o e q other = grind (arith, submissions-next, submissions-none)

-- what the limits say of a state and a member where none is passed
pub record IsUnder (cells steps : ℕ) (g : State) (p : ℕ) : Type 0 where
  pub few_submissions : submissions g.submitted p ≤ MAX_SUBMISSIONS
  pub few_instances : (member g p).last ≤ MAX_INSTANCES
  pub few_rounds : round_of (member g p) ≤ MAX_ROUNDS
  pub few_envelopes : length g.sent ≤ MAX_ENVELOPES
  pub few_batches : length (order g) ≤ cells
  pub few_steps : steps ≤ MAX_STEPS

pub limits-none : (cells steps : ℕ) (g : State) (p : ℕ) → first_fault (limits cells steps g p) ≡ None → IsUnder cells steps g p
limits-none cells steps g p h = grind arith

module _ (w : Rehearsal) (step : Step) (o : Outcome) (law : IsLawful w)
    (is : row w.setting (state_of w) (actor step) (member (state_of w) (actor step)) step ≡ Some o)
    (under : IsUnder w.cells (length w.steps + 1) (after w.setting (state_of w) (actor step) o) (actor step)) where
  -- a bound that holds of each member before the step, and of the actor after it, holds of each member after it
  for_each : (f : Member → ℕ) (bound : ℕ) → ((q : ℕ) → f (member (state_of w) q) ≤ bound) →
      f (member (after w.setting (state_of w) (actor step) o) (actor step)) ≤ bound → (q : ℕ) →
      f (member (after w.setting (state_of w) (actor step) o) q) ≤ bound
  for_each f bound before here q =
      elim (cases_eq (q - 1) (actor step - 1)) [
        | inl same ↦ rw (at_place f (after w.setting (state_of w) (actor step) o) q (actor step) same) here
        | inr other ↦ rw (member-other w.setting (state_of w) (actor step) q o other) (before q)
      ]

  few_each : (q : ℕ) → submissions (after w.setting (state_of w) (actor step) o).submitted q ≤ MAX_SUBMISSIONS
  few_each q = grind (arith, cases_eq, after-submitted, submissions-append, row-submits)

  within_all : IsWithin w.cells (after w.setting (state_of w) (actor step) o) (length w.steps + 1)
  within_all =
      let instances = for_each (λ m. m.last) MAX_INSTANCES law.within.few_instances under.few_instances in
      search (under, few_each, instances, for_each round_of MAX_ROUNDS law.within.few_rounds under.few_rounds)

-- a step without a cause is taken, with the outcome of its row
pub taken_of : (w : Rehearsal) (step : Step) (o : Outcome) → IsLawful w → cause w step ≡ None → NamesWaiting w step →
    row w.setting (state_of w) (actor step) (member (state_of w) (actor step)) step ≡ Some o → IsTaken w step o
taken_of w step o law none names is =
    let free = cause-none w step none in
    let under = limits-none w.cells (length w.steps + 1) (after w.setting (state_of w) (actor step) o) (actor step)
    (sym (limit-of w step o free.present is) ∙ free.limited) in
    search (free, within_all w step o law is under)

-- and its actor began no more instances than there may be
pub last_of : (w : Rehearsal) (step : Step) (o : Outcome) → IsLawful w → IsTaken w step o → o.member.last ≤ MAX_INSTANCES
last_of w step o law taken =
    let there = in_members w.setting (state_of w) (actor step) law.size taken.present.in_group in
    rw (member-same w.setting (state_of w) (actor step) o there) at (taken.within.few_instances (actor step))

-- the first test that fires is the first of some, or of the others
pub first_fault-append : (some rest : List Test) → first_fault (some ++ rest) ≡ or_else (first_fault some) (first_fault rest)
first_fault-append [] rest = refl
first_fault-append (test ∷ some) rest = grind (arith, first_fault-append some rest)

-- the limits of a step with this outcome, one by one
module _ (w : Rehearsal) (step : Step) (o : Outcome) (law : IsLawful w) (present : IsPresent w (actor step))
    (is : row w.setting (state_of w) (actor step) (member (state_of w) (actor step)) step ≡ Some o) where
  abbrev g : State
  g = state_of w

  abbrev p : ℕ
  p = actor step

  abbrev h : State
  h = after w.setting (state_of w) (actor step) o

  member_is : member h p ≡ o.member
  member_is = member-same w.setting g p o (in_members w.setting g p law.size present.in_group)

  few_silent : o.submitted ≡ [] → nat_lt MAX_SUBMISSIONS (submissions h.submitted p) ≡ false
  few_silent none = grind (arith, after-submitted, append-nil)

  -- where it submits nothing
  pub limit-silent : o.submitted ≡ [] → limit w step ≡ first_fault (at (Full Instances) (nat_lt MAX_INSTANCES o.member.last)
      ∷ at (Full Rounds) (nat_lt MAX_ROUNDS (round_of o.member))
      ∷ at (Full Envelopes) (nat_lt MAX_ENVELOPES (length (state_of w).sent + length (envelopes w.setting.members o.mail)))
      ∷ at (Full Cells) (nat_lt w.cells (length (order (after w.setting (state_of w) (actor step) o))))
      ∷ at (Full Steps) (nat_lt MAX_STEPS (length w.steps + 1))
      ∷ [])
  limit-silent none = limit-of w step o present is ∙ rw (few_silent none, member_is, length-after-sent w.setting g p o) refl

  instances_kept : o.member.last ≡ (member g p).last → nat_lt MAX_INSTANCES o.member.last ≡ false
  instances_kept same = ap (nat_lt MAX_INSTANCES) same ∙ low MAX_INSTANCES (member g p).last (law.within.few_instances p)

  rounds_kept : o.member.current ≡ (member g p).current → nat_lt MAX_ROUNDS (round_of o.member) ≡ false
  rounds_kept same = grind arith

  cells_kept : o.member.batches ≡ (member g p).batches → nat_lt w.cells (length (order h)) ≡ false
  cells_kept same =
      ap (λ list. nat_lt w.cells (length list)) (order-kept w.setting g p o same) ∙ low w.cells (length (order g)) law.within.few_batches

  -- where it submits and delivers nothing
  pub limit-idle : o.submitted ≡ [] → o.member.batches ≡ (member (state_of w) (actor step)).batches → limit w step
      ≡ or_else (first_fault (at (Full Instances) (nat_lt MAX_INSTANCES o.member.last)
      ∷ at (Full Rounds) (nat_lt MAX_ROUNDS (round_of o.member)) ∷ []))
      (overflow w (length (envelopes w.setting.members o.mail)))
  limit-idle none kept = grind (arith, limit-silent, cells_kept, first_fault-append, overflow-is)

  -- where its member keeps its instances and batches
  pub limit-kept : IsKept (member (state_of w) (actor step)) o.member → limit w step
      ≡ first_fault (at (Full Submissions) (nat_lt MAX_SUBMISSIONS
      (submissions (after w.setting (state_of w) (actor step) o).submitted (actor step)))
      ∷ at (Full Envelopes) (nat_lt MAX_ENVELOPES (length (state_of w).sent + length (envelopes w.setting.members o.mail)))
      ∷ at (Full Steps) (nat_lt MAX_STEPS (length w.steps + 1))
      ∷ [])
  limit-kept keeps =
      limit-of w step o present is
      ∙ rw (
        member_is,
        instances_kept keeps.last,
        rounds_kept keeps.current,
        cells_kept keeps.batches,
        length-after-sent w.setting g p o,
      ) refl

  -- where both are so
  pub limit-overflow : o.submitted ≡ [] → IsKept (member (state_of w) (actor step)) o.member
      → limit w step ≡ overflow w (length (envelopes w.setting.members o.mail))
  limit-overflow none keeps = limit-idle none keeps.batches ∙ rw (instances_kept keeps.last, rounds_kept keeps.current) refl
