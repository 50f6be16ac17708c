-- Submit.
use Rattle.std.proofs.Common.{◌≡◌, ℕ, ◌+◌, ◌≤◌, ◌<◌, true, false, [], ◌∷◌, length, refl, ◌∙◌, arith, Some, None}
use Rattle.std.specs.Prelude.{nat_lt}
use Rattle.std.proofs.lemmas.Bool.Decides.{nat_tests}
use Rattle.ct_names.specs.declared.limit.TheConstants.{MAX_ENVELOPES, MAX_STEPS, MAX_SUBMISSIONS}
use Rattle.ct_names.specs.declared.command.Command.{Command}
use Rattle.ct_names.specs.declared.refusal.Refusal.TheVariants.{BadCommand, Full}
use Rattle.ct_names.specs.declared.limit.Limit.TheVariants.{Submissions, Envelopes, Steps}
use Rattle.ct_names.specs.Command.{is_good}
use Rattle.ct_model.specs.declared.step.Step.TheVariants.{Submit}
use Rattle.ct_model.specs.State.{member, submissions}
use Rattle.ct_model.specs.Wire.{envelopes}
use Rattle.ct_model.specs.declared.wire.Wire.TheVariants.{Data}
use Rattle.ct_model.specs.Next.{Outcome, submit, next_message, after, row}
use Rattle.ct_model.specs.Rehearsal.{Rehearsal, state_of}
use Rattle.ct_model.specs.Cause.{at, first_fault, cause, overflow}
use Rattle.ct_model.specs.Lawful.{IsLawful, IsPresent}
use Rattle.ct_model.proofs.Basics.Tests.{self_number}
use Rattle.ct_model.proofs.Basics.Serials.{length-all}
use Rattle.ct_model.proofs.Record.Frame.{after-submitted, submissions-append, submissions-next}
use Rattle.ct_model.proofs.Record.Causes.{IsKept, overflow-is}
use Rattle.ct_model.proofs.Record.Taken.{IsTaken}
use Rattle.ct_model.proofs.Record.Limits.{cause-failed, cause-passed, passed-free, limit-kept, taken_of}

unfoldable pub submit_outcome : Rehearsal → ℕ → Command → Outcome
submit_outcome w p c = submit (state_of w) p (member (state_of w) p) c

pub submit_outcome-is : (w : Rehearsal) (p : ℕ) (c : Command) → submit_outcome w p c ≡ submit (state_of w) p (member (state_of w) p) c
submit_outcome-is w p c = unfold submit_outcome in refl

row-submit : (w : Rehearsal) (p : ℕ) (c : Command) → is_good c ≡ true
    → row w.setting (state_of w) p (member (state_of w) p) (Submit p c) ≡ Some (submit_outcome w p c)
unfolding submit_outcome
row-submit w p c good = rw good refl

own_count : (w : Rehearsal) (p : ℕ) (c : Command)
    → submissions (after w.setting (state_of w) p (submit_outcome w p c)).submitted p ≡ submissions (state_of w).submitted p + 1
unfolding submit_outcome
own_count w p c = grind (arith, after-submitted, submissions-append, submissions-next, self_number)

module _ (w : Rehearsal) (p : ℕ) (c : Command) (law : IsLawful w) (present : IsPresent w p) where
  keeps : IsKept (member (state_of w) p) (submit_outcome w p c).member
  unfolding submit_outcome
  keeps = record { last = refl; current = refl; batches = refl }

  mail_number : length (envelopes w.setting.members (submit_outcome w p c).mail) ≡ w.setting.members
  unfolding submit_outcome
  mail_number = length-all (Data (next_message (state_of w).submitted p c)) w.setting.members

  cause-good : is_good c ≡ true → cause w (Submit p c)
      ≡ first_fault (at (Full Submissions) (nat_lt MAX_SUBMISSIONS (submissions (state_of w).submitted p + 1))
      ∷ at (Full Envelopes) (nat_lt MAX_ENVELOPES (length (state_of w).sent + w.setting.members))
      ∷ at (Full Steps) (nat_lt MAX_STEPS (length w.steps + 1))
      ∷ [])
  cause-good good =
      cause-passed w (Submit p c) BadCommand (is_good c) refl present good
      ∙ limit-kept w (Submit p c) (submit_outcome w p c) law present (row-submit w p c good) keeps ∙ rw (own_count w p c, mail_number) refl

  pub cause-submit-bad : is_good c ≡ false → cause w (Submit p c) ≡ Some BadCommand
  cause-submit-bad bad = cause-failed w (Submit p c) BadCommand (is_good c) refl present bad

  pub cause-submit-full : is_good c ≡ true → MAX_SUBMISSIONS ≤ submissions (state_of w).submitted p →
      cause w (Submit p c) ≡ Some (Full Submissions)
  cause-submit-full good many = grind (arith, cause-good good)

  pub cause-submit-sends : is_good c ≡ true → submissions (state_of w).submitted p < MAX_SUBMISSIONS →
      cause w (Submit p c) ≡ overflow w w.setting.members
  cause-submit-sends good few = grind (arith, nat_tests, cause-good, overflow-is)

-- a Submit that is allowed
pub record IsSubmitted (w : Rehearsal) (p : ℕ) (c : Command) : Type 0 where
  pub good : is_good c ≡ true
  pub few : submissions (state_of w).submitted p + 1 ≤ MAX_SUBMISSIONS
  pub taken : IsTaken w (Submit p c) (submit_outcome w p c)

pub submit_taken : (w : Rehearsal) (p : ℕ) (c : Command) → IsLawful w → cause w (Submit p c) ≡ None → IsSubmitted w p c
submit_taken w p c law none =
    let good : is_good c ≡ true = passed-free w (Submit p c) BadCommand (is_good c) refl none in
    let taken = taken_of w (Submit p c) (submit_outcome w p c) law none tt (row-submit w p c good) in
    record { good = good; few = rw (own_count w p c) at (taken.within.few_submissions p); taken = taken }
