-- Postpone, Lose and Repeat: they change nothing but a waiting line.
use Rattle.std.proofs.Common.{◌≡◌, ℕ, Bool, true, false, [], ◌∷◌, refl, sym, ap, ◌∙◌, Some, None, arith}
use Rattle.std.specs.Prelude.{is_some, is_none}
use Rattle.ct_names.specs.declared.refusal.Refusal.TheVariants.{NotWaiting, NotSent, StillWaiting}
use Rattle.ct_model.specs.declared.step.Step.{Step}
use Rattle.ct_model.specs.declared.step.Step.TheVariants.{Postpone, Lose, Repeat}
use Rattle.ct_model.specs.Actor.{actor}
use Rattle.ct_model.specs.State.{member}
use Rattle.ct_model.specs.declared.mail.Mail.TheVariants.{Nobody}
use Rattle.ct_model.specs.Next.{Outcome, plain, line_row, row, wire_to}
use Rattle.ct_model.specs.Rehearsal.{Rehearsal, state_of}
use Rattle.ct_model.specs.Cause.{at, first_fault, limit, cause, overflow}
use Rattle.ct_model.proofs.Record.Causes.{own_tests, cause-none, first_fault-none}
use Rattle.ct_model.specs.Lawful.{IsLawful, IsPresent, NamesWaiting, is_waiting}
use Rattle.ct_model.proofs.Record.Envelopes.{waiting_letter, letter_wire}
use Rattle.ct_model.proofs.Record.Taken.{IsTaken}
use Rattle.ct_model.proofs.Record.Limits.{own_tests-is, cause-tested, cause-limited, cause-failed, cause-passed, passed-free}
use Rattle.ct_model.proofs.Record.Limits.{limit-overflow, taken_of}

-- the outcome of each
unfoldable pub line_outcome : Rehearsal → ℕ → Outcome
line_outcome w p = plain (member (state_of w) p) Nobody

module _ (w : Rehearsal) (step : Step) (k : ℕ)
    (is : row w.setting (state_of w) (actor step) (member (state_of w) (actor step)) step
    ≡ line_row (state_of w) (actor step) (member (state_of w) (actor step)) k)
    (law : IsLawful w) (sent : is_some (wire_to (state_of w) (actor step) k) ≡ true) where
  rowed : row w.setting (state_of w) (actor step) (member (state_of w) (actor step)) step
      ≡ Some (plain (member (state_of w) (actor step)) Nobody)
  rowed = is ∙ grind arith

  limit-line : IsPresent w (actor step) → limit w step ≡ overflow w 0
  limit-line present = limit-overflow w step (plain (member (state_of w) (actor step)) Nobody) law present rowed refl
      (record { last = refl; current = refl; batches = refl })

  line_taken : cause w step ≡ None → NamesWaiting w step → IsTaken w step (line_outcome w (actor step))
  unfolding line_outcome
  line_taken none names = taken_of w step (plain (member (state_of w) (actor step)) Nobody) law none names rowed

pub waiting_sent : (w : Rehearsal) (p k : ℕ) → IsLawful w → is_waiting w p k ≡ true → is_some (wire_to (state_of w) p k) ≡ true
waiting_sent w p k law waits = let l = waiting_letter w p k law waits in ap is_some (letter_wire (state_of w) p k l.0 l.1)

-- Postpone

pub cause-postpone-away : (w : Rehearsal) (p k : ℕ) → IsPresent w p → is_waiting w p k ≡ false → cause w (Postpone p k) ≡ Some NotWaiting
cause-postpone-away w p k present away = cause-failed w (Postpone p k) NotWaiting (is_waiting w p k) refl present away

pub cause-postpone : (w : Rehearsal) (p k : ℕ) → IsLawful w → IsPresent w p → is_waiting w p k ≡ true
    → cause w (Postpone p k) ≡ overflow w 0
cause-postpone w p k law present waits =
    cause-passed w (Postpone p k) NotWaiting (is_waiting w p k) refl present waits
    ∙ limit-line w (Postpone p k) k refl law (waiting_sent w p k law waits) present

-- what may be postponed waits there
pub postpone_waits : (w : Rehearsal) (p k : ℕ) → cause w (Postpone p k) ≡ None → is_waiting w p k ≡ true
postpone_waits w p k none = passed-free w (Postpone p k) NotWaiting (is_waiting w p k) refl none

-- a Postpone that is allowed
pub postpone_taken : (w : Rehearsal) (p k : ℕ) → IsLawful w → cause w (Postpone p k) ≡ None → IsTaken w (Postpone p k) (line_outcome w p)
postpone_taken w p k law none =
    let waits = postpone_waits w p k none in line_taken w (Postpone p k) k refl law (waiting_sent w p k law waits) none waits

-- Lose

pub cause-lose-away : (w : Rehearsal) (p k : ℕ) → IsPresent w p → is_waiting w p k ≡ false → cause w (Lose p k) ≡ Some NotWaiting
cause-lose-away w p k present away = cause-failed w (Lose p k) NotWaiting (is_waiting w p k) refl present away

pub cause-lose : (w : Rehearsal) (p k : ℕ) → IsLawful w → IsPresent w p → is_waiting w p k ≡ true → cause w (Lose p k) ≡ overflow w 0
cause-lose w p k law present waits =
    cause-passed w (Lose p k) NotWaiting (is_waiting w p k) refl present waits
    ∙ limit-line w (Lose p k) k refl law (waiting_sent w p k law waits) present

-- what may be lost waits there
pub lose_waits : (w : Rehearsal) (p k : ℕ) → cause w (Lose p k) ≡ None → is_waiting w p k ≡ true
lose_waits w p k none = passed-free w (Lose p k) NotWaiting (is_waiting w p k) refl none

-- a Lose that is allowed
pub lose_taken : (w : Rehearsal) (p k : ℕ) → IsLawful w → cause w (Lose p k) ≡ None → IsTaken w (Lose p k) (line_outcome w p)
lose_taken w p k law none =
    let waits = lose_waits w p k none in line_taken w (Lose p k) k refl law (waiting_sent w p k law waits) none waits

-- Repeat

module _ (w : Rehearsal) (p k : ℕ) (present : IsPresent w p) where
  pub cause-repeat-unsent : is_some (wire_to (state_of w) p k) ≡ false → cause w (Repeat p k) ≡ Some NotSent
  cause-repeat-unsent unsent =
      cause-tested w (Repeat p k) NotSent present
      (ap first_fault (own_tests-is w (Repeat p k)) ∙ grind arith)

  tested : is_some (wire_to (state_of w) p k) ≡ true → (b : Bool) → is_waiting w p k ≡ b →
      first_fault (own_tests w (Repeat p k)) ≡ first_fault (at StillWaiting b ∷ [])
  tested sent b e = ap first_fault (own_tests-is w (Repeat p k)) ∙ grind arith

  pub cause-repeat-waiting : is_some (wire_to (state_of w) p k) ≡ true → is_waiting w p k ≡ true → cause w (Repeat p k) ≡ Some StillWaiting
  cause-repeat-waiting sent waits = cause-tested w (Repeat p k) StillWaiting present (tested sent true waits)

  pub cause-repeat : IsLawful w → is_some (wire_to (state_of w) p k) ≡ true → is_waiting w p k ≡ false → cause w (Repeat p k) ≡ overflow w 0
  cause-repeat law sent away =
      cause-limited w (Repeat p k) present (tested sent false away) ∙ limit-line w (Repeat p k) k refl law sent present

-- what may be repeated was sent there, and doesn't wait
pub repeat_away : (w : Rehearsal) (p k : ℕ) → cause w (Repeat p k) ≡ None → NamesWaiting w (Repeat p k)
repeat_away w p k none =
    let tested = sym (ap first_fault (own_tests-is w (Repeat p k))) ∙ (cause-none w (Repeat p k) none).tested in
    let waiting = at StillWaiting (is_waiting w p k) in
    let sent = first_fault-none (at NotSent (is_none (wire_to (state_of w) p k))) (waiting ∷ []) tested in
    record { sent = let missing = sent.0 in grind arith; away = (first_fault-none waiting [] sent.1).0 }

-- a Repeat that is allowed
pub repeat_taken : (w : Rehearsal) (p k : ℕ) → IsLawful w → cause w (Repeat p k) ≡ None → IsTaken w (Repeat p k) (line_outcome w p)
repeat_taken w p k law none = let away = repeat_away w p k none in line_taken w (Repeat p k) k refl law away.sent none away
