-- Receive.
use Rattle.std.proofs.Common.{arith, ◌≡◌, ℕ, Bool, true, false, length, refl, ap, ◌∙◌, Some, None}
use Rattle.std.specs.Prelude.{option_map, if◌then◌else◌}
use Rattle.ct_names.specs.declared.refusal.Refusal.TheVariants.{NotWaiting}
use Rattle.ct_model.specs.declared.step.Step.TheVariants.{Receive}
use Rattle.ct_model.specs.AtValue.{Envelope, Wire}
use Rattle.ct_model.specs.State.{member}
use Rattle.ct_model.specs.Wire.{envelopes}
use Rattle.ct_model.specs.declared.mail.Mail.TheVariants.{Nobody, All}
use Rattle.ct_model.specs.Next.{Outcome, receive, is_relayed, row}
use Rattle.ct_model.specs.Rehearsal.{Rehearsal, state_of}
use Rattle.ct_model.specs.Cause.{limit, cause, overflow}
use Rattle.ct_model.specs.Lawful.{IsLawful, IsPresent, IsLetter, is_waiting}
use Rattle.ct_model.proofs.Basics.Serials.{length-all}
use Rattle.ct_model.proofs.Record.Envelopes.{letter_wire}
use Rattle.ct_model.proofs.Record.Taken.{IsTaken}
use Rattle.ct_model.proofs.Record.Limits.{cause-failed, cause-passed, passed-free, limit-overflow, taken_of}

-- whether the member passes the wire on
abbrev pub passes_on : Rehearsal → ℕ → Wire → Bool
passes_on w p x = is_relayed w.setting p (member (state_of w) p).got x

unfoldable pub receive_outcome : Rehearsal → ℕ → Wire → Outcome
receive_outcome w p x = receive w.setting p (member (state_of w) p) x

pub receive_outcome-is : (w : Rehearsal) (p : ℕ) (x : Wire) → receive_outcome w p x ≡ receive w.setting p (member (state_of w) p) x
receive_outcome-is w p x = unfold receive_outcome in refl

pub either_number : (n : ℕ) (x : Wire) (b : Bool) → length (envelopes n (if b then All x else Nobody)) ≡ (if b then n else 0)
either_number n x b = grind (arith, length-all x n)

pub cause-receive-away : (w : Rehearsal) (p k : ℕ) → IsPresent w p → is_waiting w p k ≡ false → cause w (Receive p k) ≡ Some NotWaiting
cause-receive-away w p k present away = cause-failed w (Receive p k) NotWaiting (is_waiting w p k) refl present away

row-receive : (w : Rehearsal) (p k : ℕ) (e : Envelope) → IsLetter (state_of w) p k e
    → row w.setting (state_of w) p (member (state_of w) p) (Receive p k) ≡ Some (receive_outcome w p e.wire)
unfolding receive_outcome
row-receive w p k e letter = ap (option_map (receive w.setting p (member (state_of w) p))) (letter_wire (state_of w) p k e letter)

limit-receive : (w : Rehearsal) (p k : ℕ) (e : Envelope) → IsLawful w → IsPresent w p → IsLetter (state_of w) p k e
    → limit w (Receive p k) ≡ overflow w (if passes_on w p e.wire then w.setting.members else 0)
unfolding receive_outcome
limit-receive w p k e law present letter =
    limit-overflow w (Receive p k) (receive w.setting p (member (state_of w) p) e.wire) law present (row-receive w p k e letter) refl
    (record { last = refl; current = refl; batches = refl })
    ∙ ap (overflow w) (either_number w.setting.members e.wire (passes_on w p e.wire))

pub cause-receive : (w : Rehearsal) (p k : ℕ) (e : Envelope) → IsLawful w → IsPresent w p → IsLetter (state_of w) p k e
    → is_waiting w p k ≡ true
    → cause w (Receive p k) ≡ overflow w (if passes_on w p e.wire then w.setting.members else 0)
cause-receive w p k e law present letter waits =
    cause-passed w (Receive p k) NotWaiting (is_waiting w p k) refl present waits ∙ limit-receive w p k e law present letter

-- what may be received waits there
pub receive_waits : (w : Rehearsal) (p k : ℕ) → cause w (Receive p k) ≡ None → is_waiting w p k ≡ true
receive_waits w p k none = passed-free w (Receive p k) NotWaiting (is_waiting w p k) refl none

-- a Receive that is allowed
pub receive_taken : (w : Rehearsal) (p k : ℕ) (e : Envelope) → IsLawful w → cause w (Receive p k) ≡ None → IsLetter (state_of w) p k e →
    IsTaken w (Receive p k) (receive_outcome w p e.wire)
receive_taken w p k e law none letter =
    taken_of w (Receive p k) (receive_outcome w p e.wire) law none (receive_waits w p k none) (row-receive w p k e letter)
