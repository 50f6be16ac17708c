-- A step that is taken: what it does to the record, whichever step it is.
use Rattle.std.proofs.lemmas.Bool.Decides.{nat_tests}
use Rattle.std.proofs.Common.{◌≡◌, ℕ, suc, ◌+◌, ◌<◌, ◌≤◌, Bool, true, false, List, [], ◌∷◌, ◌++◌, length, refl, ap, ◌∙◌, arith}
use Rattle.std.proofs.Common.{None, Some, inl, inr, append-nil}
use Rattle.std.specs.Prelude.{not, ◌==◌, ◌&&◌, ◌||◌, option_and_then}
use Rattle.std.proofs.lemmas.List.{drop_at, length_push}
use Rattle.ct_names.specs.Group.{is_member}
use Rattle.ct_model.specs.declared.step.Step.{Step}
use Rattle.ct_model.specs.declared.mail.Mail.TheVariants.{Nobody}
use Rattle.ct_model.specs.Actor.{actor}
use Rattle.ct_model.specs.Cause.{cause}
use Rattle.ct_model.specs.AtValue.{Envelope}
use Rattle.ct_model.specs.Setting.{Setting}
use Rattle.ct_model.specs.Wire.{envelopes}
use Rattle.ct_model.specs.State.{State, Member, member, is_crashed}
use Rattle.ct_model.specs.Next.{Outcome, row, after, next}
use Rattle.ct_model.specs.Run.{run}
use Rattle.ct_model.specs.Waiting.{LineChange, has_serial, serials_to, line_change, changed, line_after}
use Rattle.ct_model.specs.Waiting.LineChange.{Takes}
use Rattle.ct_model.specs.Rehearsal.{Rehearsal, state_of, line_of, extended}
use Rattle.ct_model.specs.Stamps.{is_gone, stamp, IsRising}
use Rattle.ct_model.specs.Lawful.{is_distinct, Waits, IsAway, IsWithin, IsLawful, IsPresent, NamesWaiting}
use Rattle.ct_model.specs.Cause.{cause}
use Rattle.ct_model.proofs.Basics.Tests.{and_left, and_both, and_false, or_left, or_cases, not_true}
use Rattle.ct_model.proofs.Basics.Tests.{self_number}
use Rattle.ct_model.proofs.Record.Allows.{allowed-more}
use Rattle.ct_model.proofs.Record.Runs.{state_of-push, run-push, stepped-next}
use Rattle.ct_model.proofs.Record.Envelopes.{was_sent, sent_serial, serial_sent}
use Rattle.ct_model.proofs.Record.Lines.{waiting-push, changed-distinct, changed-has, changed-rising}
use Rattle.ct_model.proofs.Record.Stamps.{takes, moves, restores, is_gone-push, stamp-push, stamp-within, rising-push}
use Rattle.ct_model.proofs.Basics.Serials.{has_serial-append, is_distinct-append, serials_to-append, serials_to-within, serials_to-distinct}
use Rattle.ct_model.proofs.Basics.Serials.{mail_at_most}
use Rattle.ct_model.proofs.Record.Frame.{after-sent, length-after-sent, after-size}

-- the step is allowed after the record, and this is its outcome
pub record IsTaken (w : Rehearsal) (step : Step) (o : Outcome) : Type 0 where
  pub present : IsPresent w (actor step)
  pub row : row w.setting (state_of w) (actor step) (member (state_of w) (actor step)) step ≡ Some o
  pub names : NamesWaiting w step
  pub within : IsWithin w.cells (after w.setting (state_of w) (actor step) o) (length w.steps + 1)
  pub free : cause w step ≡ None

pub next-row : (s : Setting) (g : State) (step : Step) (o : Outcome) → is_member s.members (actor step) ≡ true →
    is_crashed g (actor step) ≡ false → row s g (actor step) (member g (actor step)) step ≡ Some o →
    next s g step ≡ Some (after s g (actor step) o)
unfolding next
next-row s g step o group up e =
    grind (arith, and_both (is_member s.members (actor step)) (not (is_crashed g (actor step))) group (ap not up))

sent_within : (g : State) (p k : ℕ) → has_serial k (serials_to p 0 g.sent) ≡ true → k ≤ length g.sent
sent_within g p k m = let b = serials_to-within p 0 k g.sent m in omega arith

waiting_within : (w : Rehearsal) → IsLawful w → (p k : ℕ) → has_serial k (line_of w p) ≡ true → k ≤ length (state_of w).sent
waiting_within w law p k m = sent_within (state_of w) p k (was_sent w p k law m)

-- a serial that wasn't sent isn't taken
not_early : (w : Rehearsal) → IsLawful w → (change : LineChange) → Waits w change → (p k : ℕ) → length (state_of w).sent < k
    → takes p k change ≡ false
not_early w law (Takes q i) waits p k m = grind (arith, waiting_within w law q i waits, and_false (q == p))
not_early w law _ waits p k m = refl

-- a serial that is put back was sent to the member, and doesn't wait there
restored : (w : Rehearsal) (change : LineChange) → Waits w change → (p k : ℕ) → restores p k change ≡ true → IsAway w p k
restored w change away p k e = grind arith

-- of a serial: it was sent before, it was gone before, the step takes it, puts it back, sends it
or_back : (old was now back new : Bool) → (new ≡ true → (was ≡ false) × (now ≡ false)) → (back ≡ true → old ≡ true)
    → ((((old && not was) && not now) || back) || new) ≡ ((old || new) && not ((was || now) && not back))
or_back old was now back new fresh sent = grind arith

-- a step that moves a serial sends nothing
moved-silent : (s : Setting) (g : State) (p : ℕ) (m : Member) (q k : ℕ) (step : Step) (o : Outcome) → row s g p m step ≡ Some o →
    moves q k (line_change step) ≡ true → o.mail ≡ Nobody
moved-silent s g p m q k step o e moved = grind arith

-- what waits after a change that doesn't move it waited before
unmoved : (p k : ℕ) (change : LineChange) (line : List ℕ) → has_serial k (changed p change line) ≡ true → moves p k change ≡ false →
    has_serial k line ≡ true
unmoved p k change line m still = grind (arith, changed-has p k change line)

module _ (w : Rehearsal) (step : Step) (o : Outcome) (law : IsLawful w) (taken : IsTaken w step o) where
  sends : List Envelope
  sends = envelopes w.setting.members o.mail

  h : State
  h = after w.setting (state_of w) (actor step) o

  pub next-step : next w.setting (state_of w) step ≡ Some (after w.setting (state_of w) (actor step) o)
  next-step = next-row w.setting (state_of w) step o taken.present.in_group taken.present.up taken.row

  pub state-step : state_of (extended w step) ≡ after w.setting (state_of w) (actor step) o
  state-step = state_of-push w step ∙ stepped-next w.setting (state_of w) (after w.setting (state_of w) (actor step) o) step next-step

  run-step : run w.setting (w.steps ++ step ∷ []) ≡ Some (after w.setting (state_of w) (actor step) o)
  run-step = run-push w.setting w.steps step ∙ ap (λ x. option_and_then (λ g. next w.setting g step) x) law.runs ∙ next-step

  -- the serials that it sends to p
  coming : ℕ → List ℕ
  coming p = serials_to p (length (state_of w).sent) sends

  -- the line as the step changes it, and what it sends comes after
  pub line-step : (p : ℕ) → line_of (extended w step) p
      ≡ changed p (line_change step) (line_of w p) ++ serials_to p (length (state_of w).sent) (envelopes w.setting.members o.mail)
  unfolding line_of state_of line_after
  line-step p = grind (arith, stepped-next, next-step, after-sent, drop_at, waiting-push)

  sent_parts : (p : ℕ) → serials_to p 0 h.sent ≡ serials_to p 0 (state_of w).sent ++ serials_to p (length (state_of w).sent) sends
  unfolding h sends
  sent_parts p = grind (arith, after-sent, serials_to-append)

  -- what it sends wasn't gone, and isn't taken
  untaken : (p k : ℕ) → length (state_of w).sent < k → (is_gone w p k ≡ false) × (takes p k (line_change step) ≡ false)
  untaken p k m = (law.unsent p k m, not_early w law (line_change step) taken.names p k m)

  unsent-step : (p k : ℕ) → length h.sent < k → is_gone (extended w step) p k ≡ false
  unfolding h
  unsent-step p k m = grind (arith, length-after-sent, untaken, is_gone-push)

  waits-step : (p k : ℕ)
      → has_serial k (line_of (extended w step) p) ≡ (has_serial k (serials_to p 0 h.sent) && not (is_gone (extended w step) p k))
  unfolding coming sends
  waits-step p k =
      let old : List ℕ = serials_to p 0 (state_of w).sent in
      let now : Bool = takes p k (line_change step) in
      ap (has_serial k) (line-step p)
      ∙ has_serial-append k (changed p (line_change step) (line_of w p)) (coming p)
      ∙ rw (
        changed-has p k (line_change step) (line_of w p),
        law.waits p k,
        sent_parts p,
        has_serial-append k old (coming p),
        is_gone-push w step p k,
      )
      (or_back (has_serial k old) (is_gone w p k) now (restores p k (line_change step)) (has_serial k (coming p))
      (λ m. untaken p k (serials_to-within p (length (state_of w).sent) k sends m).0)
      (λ m. sent_serial (state_of w) p k (restored w (line_change step) taken.names p k m).sent))

  -- what waits after the change of the line was sent before
  old_within : (p k : ℕ) → has_serial k (changed p (line_change step) (line_of w p)) ≡ true → k ≤ length (state_of w).sent
  old_within p k m =
      grind (arith, nat_tests, takes, or_cases, restores, changed-has, waiting_within, and_left, sent_within, sent_serial, restored)

  distinct-step : (p : ℕ) → is_distinct (line_of (extended w step) p) ≡ true
  unfolding coming sends
  distinct-step p =
      grind (arith, line-step, is_distinct-append, changed-distinct, restored, serials_to-distinct, old_within, serials_to-within)

  -- what waits was sent, so its stamp stays, unless it moves
  stamp_kept : (p k : ℕ) → has_serial k (line_of w p) ≡ true → moves p k (line_change step) ≡ false
      → stamp (extended w step) p k ≡ stamp w p k
  stamp_kept p k m still = grind (arith, stamp-push, serial_sent, was_sent)

  stamp_moved : (p k : ℕ) → moves p k (line_change step) ≡ true → stamp (extended w step) p k ≡ suc (length w.steps)
  stamp_moved p k m = grind (arith, stamp-push)

  stamp_sent : (p k : ℕ) → has_serial k (coming p) ≡ true → stamp (extended w step) p k ≡ suc (length w.steps)
  unfolding coming sends h
  stamp_sent p k m =
      grind (arith, serials_to-within, serial_sent, state-step, sent_parts, has_serial-append, sent_within, sent_serial, stamp-push)

  changed_small : (p k : ℕ) → coming p ≡ k ∷ [] → (i : ℕ) → has_serial i (changed p (line_change step) (line_of w p)) ≡ true →
      stamp (extended w step) p i < stamp (extended w step) p k
  unfolding coming sends
  changed_small p k one i m =
      grind (arith, nat_tests, moves, not_true, moved-silent, coming, unmoved, stamp_sent, or_left, self_number, stamp_kept, stamp-within)

  rising-step : (p : ℕ) → IsRising (stamp (extended w step) p) (line_of (extended w step) p)
  unfolding coming sends
  rising-step p =
      let old : IsRising (stamp (extended w step) p) (changed p (line_change step) (line_of w p)) =
      changed-rising p (line_of w p) (stamp w p) (stamp (extended w step) p) (suc (length w.steps)) (law.distinct p) (law.rising p)
      (λ k m. let few = stamp-within w p k in omega arith) (line_change step)
      (λ k m. (restored w (line_change step) taken.names p k m).away) (stamp_kept p) (stamp_moved p) in
      rw (line-step p) (elim (mail_at_most w.setting.members p (length (state_of w).sent) o.mail) [
        | inl none ↦ rw (none, append-nil) old
        | inr one ↦ rw one.1 (rising-push (stamp (extended w step) p) (changed p (line_change step) (line_of w p)) one.0 old
            (changed_small p one.0 one.1))
      ])

  pub lawful-step : IsLawful (extended w step)
  unfolding h
  lawful-step =
      let allowed = allowed-more w step law.allowed taken.free in
      grind (arith, run-step, state-step, after-size, length_push, unsent-step, waits-step, distinct-step, rising-step, allowed)
