-- What is expected of acts and of envelopes that wait.
use Rattle.std.proofs.Common.{◌≡◌, ◌≤◌, ℕ, zero, suc, Bool, true, false, List, ◌&&◌, length, refl, ap}
use Rattle.std.proofs.Common.{sym, ◌∙◌, subst, arith, Option, Some, None, Ok, Err, Result, is_some, eqb-true, ◌==◌}
use Rattle.std.proofs.lemmas.Bool.Decides.{nat_tests}
use Rattle.std.specs.Prelude.{if◌then◌else◌, is_none}
use Rattle.std.specs.Option.{option_or}
use Rattle.ct_names.specs.Membership.{IsIn}
use Rattle.ct_names.specs.declared.refusal.Refusal.{Refusal}
use Rattle.ct_names.proofs.Lists.{contrary, found-find, found-list_any, list_any-found}
use Rattle.ct_model.specs.Cause.{cause}
use Rattle.ct_model.specs.Rehearsal.{Rehearsal, line_of, state_of}
use Rattle.ct_model.specs.declared.step.Step.{Step}
use Rattle.ct_model.specs.declared.step.Step.TheVariants as step
use Rattle.ct_grammar.specs.declared.act.Act.{Act}
use Rattle.ct_grammar.specs.declared.act.Act.TheVariants.{Receive}
use Rattle.ct_grammar.specs.declared.act.Act.TheVariants.{Postpone, Lose, Repeat, LoseFrom}
use Rattle.ct_grammar.specs.declared.pick.Pick.{Pick}
use Rattle.ct_grammar.specs.declared.pick.Pick.TheVariants.{Serial, First}
use Rattle.ct_grammar.specs.declared.reason.Reason.{Reason}
use Rattle.ct_grammar.specs.declared.reason.Reason.TheVariants.{NotThere, Across, Rules}
use Rattle.ct_grammar.specs.declared.carried.Carried.{Carried}
use Rattle.ct_play.specs.Acting.{first_loss, go_on, step_of, there}
use Rattle.ct_play.specs.Cuts.{barred}
use Rattle.ct_play.specs.Facts.{act_reason, is_reason, reason_by, step_reason}
use Rattle.ct_play.specs.Picking.{first_from, first_so, is_gone, is_of, is_so, is_waiting, last_of, last_so, picked, repeated, sender_of}
use Rattle.ct_play.specs.Picking.{waiting_at, waits_at, was_sent}
use Rattle.ct_play.specs.Played.{Played}
use Rattle.ct_play.specs.declared.line_fault.LineFault.{LineFault}
use Rattle.ct_play.specs.declared.line_fault.LineFault.TheVariants as fault
use Rattle.ct_laws.specs.Expectations.{ComesTo, HasNever, HasNone, HasNoneFrom, HasWaiting, IsAcross, IsNotThere, IsOpen, IsRefusedFor}
use Rattle.ct_laws.proofs.Expecting.Values.{reason_same, same_reason}
use Rattle.ct_laws.proofs.Finding.{none_found, none_passes}

-- ---- the last that passes

no_last : (test : ℕ → Bool) (n k : ℕ) → last_of test n ≡ None → 1 ≤ k → k ≤ n → test k ≡ false
no_last test zero k h low high = absurd (omega (arith, low, high))
no_last test (suc n) k h low high = grind (arith, no_last test n k)

last_none : (test : ℕ → Bool) (n : ℕ) → ((k : ℕ) → 1 ≤ k → k ≤ n → test k ≡ false) → last_of test n ≡ None
last_none test zero h = refl
last_none test (suc n) h =
    ap (λ b. if b then Some (suc n) else last_of test n) (h (suc n) (omega arith) (omega arith))
    ∙ last_none test n (λ k low high. h k low (omega (arith, high)))

-- ---- what waits at a member of the group

second_none : (a b : Option ℕ) → option_or a b ≡ None → b ≡ None
second_none a b h = grind arith

not_both : (a b : Bool) → a ≡ false → (a && b) ≡ false
not_both a b h = ap (λ c. c && b) h

-- the member's line is what waits there
module _ (w : Rehearsal) (p : ℕ) (line : waiting_at w p ≡ line_of w p) where
  in_line : (k : ℕ) → IsIn k (waiting_at w p) → IsIn k (line_of w p)
  in_line k h = subst (λ l. IsIn k l) line h

  waits_in : (k : ℕ) → IsIn k (line_of w p) → IsIn k (waiting_at w p)
  waits_in k h = subst (λ l. IsIn k l) (sym line) h

  -- ---- waits

  first_waits : (carried : Carried) (from : Option ℕ) (o : Option ℕ) → first_so w p carried from ≡ o → is_some o ≡ true →
      HasWaiting w p (First carried from)
  unfolding first_so
  first_waits carried from None is h = absurd (cc h)
  first_waits carried from (Some k) is h =
      let f = found-find (is_so w carried from) k (waiting_at w p) is in (k, in_line k f.0, f.1)

  pub waits_so : (pick : Pick) → is_waiting w p pick ≡ true → HasWaiting w p pick
  unfolding waits_at
  waits_so (Serial k) h =
      let f = found-list_any (λ q. q == k) (waiting_at w p) h in
      subst (λ q. IsIn q (line_of w p)) (eqb-true f.item k f.passes) (in_line f.item f.is_in)
  waits_so (First carried from) h = first_waits carried from (first_so w p carried from) refl h

  some_first : (carried : Carried) (from : Option ℕ) (o : Option ℕ) → first_so w p carried from ≡ o →
      HasWaiting w p (First carried from) → is_some o ≡ true
  unfolding first_so
  some_first carried from None is h =
      contrary (is_so w carried from h.0) h.2 (none_passes (is_so w carried from) (waiting_at w p) is h.0 (waits_in h.0 h.1))
  some_first carried from (Some k) is h = refl

  pub so_waits : (pick : Pick) → HasWaiting w p pick → is_waiting w p pick ≡ true
  unfolding waits_at
  so_waits (Serial k) h = list_any-found (λ q. q == k) k (waiting_at w p) (waits_in k h) (grind (arith, nat_tests))
  so_waits (First carried from) h = some_first carried from (first_so w p carried from) refl h

  -- ---- nothing is so named

  picked_none : (pick : Pick) → picked w p pick ≡ None → HasNone w p pick
  unfolding first_so
  picked_none (Serial k) h = absurd (cc h)
  picked_none (First carried from) h = λ k at. none_passes (is_so w carried from) (waiting_at w p) h k (waits_in k at)

  none_picked : (pick : Pick) → HasNone w p pick → picked w p pick ≡ None
  unfolding first_so
  none_picked (Serial k) h = absurd h
  none_picked (First carried from) h = none_found (is_so w carried from) (waiting_at w p) (λ k at. h k (in_line k at))

  repeated_none : (pick : Pick) → repeated w p pick ≡ None → HasNever w p pick
  unfolding last_so
  repeated_none (Serial k) h = absurd (cc h)
  repeated_none (First carried from) h = λ k low high.
      no_last (was_sent w p carried from) (length (state_of w).sent) k
      (second_none (last_of (is_gone w p carried from) (length (state_of w).sent))
      (last_of (was_sent w p carried from) (length (state_of w).sent)) h) low high

  none_repeated : (pick : Pick) → HasNever w p pick → repeated w p pick ≡ None
  unfolding last_so is_gone
  none_repeated (Serial k) h = absurd h
  none_repeated (First carried from) h =
      ap (λ o. option_or o (last_of (was_sent w p carried from) (length (state_of w).sent)))
      (last_none (is_gone w p carried from) (length (state_of w).sent)
      (λ k low high. not_both (was_sent w p carried from k) _ (h k low high)))
      ∙ last_none (was_sent w p carried from) (length (state_of w).sent) h

  from_none : (set : List ℕ) → first_from w p set ≡ None → HasNoneFrom w p set
  unfolding first_from
  from_none set h = λ k q at is has.
      contrary (is_of set (sender_of w k))
      (ap (is_of set) is ∙ list_any-found (λ x. x == q) q set has (grind (arith, nat_tests)))
      (none_passes (λ k. is_of set (sender_of w k)) (waiting_at w p) h k (waits_in k at))

  of_none : (set : List ℕ) (k : ℕ) (o : Option ℕ) (b : Bool) → ((q : ℕ) → o ≡ Some q → IsIn q set → ⊥) → is_of set o ≡ b → b ≡ false
  of_none set k None b h is = sym is
  of_none set k (Some q) false h is = refl
  of_none set k (Some q) true h is =
      let f = found-list_any (λ x. x == q) set is in
      absurd (h q refl (subst (λ x. IsIn x set) (eqb-true f.item q f.passes) f.is_in))

  none_from : (set : List ℕ) → HasNoneFrom w p set → first_from w p set ≡ None
  unfolding first_from
  none_from set h =
      none_found (λ k. is_of set (sender_of w k)) (waiting_at w p)
      (λ k at. of_none set k (sender_of w k) (is_of set (sender_of w k)) (λ q is has. h k q (in_line k at) is has) refl)

  -- ---- the step of an act

  there_err : {A : Type 0} (pick : Pick) (o : Option ℕ) (f : ℕ → Result A LineFault) (e : LineFault) →
      ((k : ℕ) → f k ≡ Err e → ⊥) → go_on (there p pick o) f ≡ Err e → o ≡ None
  there_err pick None f e never h = refl
  there_err pick (Some k) f e never h = absurd (never k h)

  loss_err : (set : List ℕ) (o : Option ℕ) (e : LineFault) → first_loss p set o ≡ Err e → o ≡ None
  loss_err set None e h = refl
  loss_err set (Some k) e h = absurd (cc h)

  pub not_there : (act : Act) (e : LineFault) → step_of w p act ≡ Err e → IsNotThere w p act
  not_there (Receive pick) e h = picked_none pick (there_err pick (picked w p pick) (λ k. Ok (step.Receive p k)) e (λ k n. cc n) h)
  not_there (Postpone pick) e h = picked_none pick (there_err pick (picked w p pick) (λ k. Ok (step.Postpone p k)) e (λ k n. cc n) h)
  not_there (Lose pick) e h = picked_none pick (there_err pick (picked w p pick) (λ k. Ok (step.Lose p k)) e (λ k n. cc n) h)
  not_there (Repeat pick) e h = repeated_none pick (there_err pick (repeated w p pick) (λ k. Ok (step.Repeat p k)) e (λ k n. cc n) h)
  not_there (LoseFrom set) e h = from_none set (loss_err set (first_from w p set) e h)
  not_there act e h = cc h

  -- the act comes to no step
  abbrev pub IsStuck : Act → Type 0
  IsStuck act = (e : LineFault) × (step_of w p act ≡ Err e)

  pub stuck : (act : Act) → IsNotThere w p act → IsStuck act
  stuck (Receive pick) h =
      (fault.NotThere p pick, ap (λ o. go_on (there p pick o) (λ k. Ok (step.Receive p k))) (none_picked pick h))
  stuck (Postpone pick) h =
      (fault.NotThere p pick, ap (λ o. go_on (there p pick o) (λ k. Ok (step.Postpone p k))) (none_picked pick h))
  stuck (Lose pick) h =
      (fault.NotThere p pick, ap (λ o. go_on (there p pick o) (λ k. Ok (step.Lose p k))) (none_picked pick h))
  stuck (Repeat pick) h =
      (fault.NotThere p pick, ap (λ o. go_on (there p pick o) (λ k. Ok (step.Repeat p k))) (none_repeated pick h))
  stuck (LoseFrom set) h = (fault.NoneFrom p set, ap (first_loss p set) (none_from set h))
  stuck act h = absurd h

-- ---- the cut

is_across : (s : Played) (step : Step) (f : LineFault) → barred s step ≡ Some f → IsAcross s step
is_across s step f h = grind arith

is_open : (s : Played) (step : Step) → barred s step ≡ None → IsOpen s step
is_open s step h = grind arith

across_bars : (s : Played) (step : Step) → IsAcross s step → (f : LineFault) × (barred s step ≡ Some f)
across_bars s (step.Receive q k) h = (fault.Across q k, ap (λ b. if b then None else Some (fault.Across q k)) h)
across_bars s _ h = absurd h

open_passes : (s : Played) (step : Step) → IsOpen s step → barred s step ≡ None
open_passes s step h = grind arith

-- ---- why an act is refused

module _ (s : Played) (p : ℕ) (act : Act) (line : waiting_at s.rehearsal p ≡ line_of s.rehearsal p) where
  -- the step is refused for this reason
  step_for : (step : Step) (o : Option LineFault) (c : Option Refusal) (reason : Reason) → step_of s.rehearsal p act ≡ Ok step →
      barred s step ≡ o → cause s.rehearsal step ≡ c → is_reason (reason_by o c) reason ≡ true → IsRefusedFor s p act reason
  step_for step o (Some refusal) reason is bars causes h =
      subst (IsRefusedFor s p act) (same_reason (Rules refusal) reason h) (step, is, causes)
  step_for step None None reason is bars causes h = absurd (cc h)
  step_for step (Some f) None reason is bars causes h =
      subst (IsRefusedFor s p act) (same_reason Across reason h) (step, is, (causes, is_across s step f bars))

  refused_by : (r : Result Step LineFault) (reason : Reason) → step_of s.rehearsal p act ≡ r → is_reason (act_reason s r) reason ≡ true →
      IsRefusedFor s p act reason
  unfolding step_reason
  refused_by (Err e) reason is h =
      subst (IsRefusedFor s p act) (same_reason NotThere reason h) (not_there s.rehearsal p line act e is)
  refused_by (Ok step) reason is h = step_for step (barred s step) (cause s.rehearsal step) reason is refl refl h

  pub refused_for : (reason : Reason) → is_reason (act_reason s (step_of s.rehearsal p act)) reason ≡ true → IsRefusedFor s p act reason
  refused_for reason h = refused_by (step_of s.rehearsal p act) reason refl h

  -- what is refused for the reason has it
  reason_is : (reason : Reason) → IsRefusedFor s p act reason → act_reason s (step_of s.rehearsal p act) ≡ Some reason
  unfolding step_reason
  reason_is NotThere h = ap (act_reason s) (stuck s.rehearsal p line act h).1
  reason_is Across h =
      ap (act_reason s) h.1 ∙ ap (reason_by (barred s h.0)) h.2.0
      ∙ ap (λ o. reason_by o None) (across_bars s h.0 h.2.1).1
  reason_is (Rules refusal) h = ap (act_reason s) h.1 ∙ ap (reason_by (barred s h.0)) h.2

  pub for_refused : (reason : Reason) → IsRefusedFor s p act reason → is_reason (act_reason s (step_of s.rehearsal p act)) reason ≡ true
  for_refused reason h = ap (λ o. is_reason o reason) (reason_is reason h) ∙ reason_same reason

  step_free : (step : Step) (o : Option LineFault) (c : Option Refusal) → step_of s.rehearsal p act ≡ Ok step →
      barred s step ≡ o → cause s.rehearsal step ≡ c → is_none (reason_by o c) ≡ true →
      ComesTo s.rehearsal p act (λ step. (cause s.rehearsal step ≡ None) × IsOpen s step)
  step_free step o (Some refusal) is bars causes h = absurd (cc h)
  step_free step None None is bars causes h = (step, is, (causes, is_open s step bars))
  step_free step (Some f) None is bars causes h = absurd (cc h)

  free_by : (r : Result Step LineFault) → step_of s.rehearsal p act ≡ r → is_none (act_reason s r) ≡ true →
      ComesTo s.rehearsal p act (λ step. (cause s.rehearsal step ≡ None) × IsOpen s step)
  unfolding step_reason
  free_by (Err e) is h = absurd (cc h)
  free_by (Ok step) is h = step_free step (barred s step) (cause s.rehearsal step) is refl refl h

  pub may_so : is_none (act_reason s (step_of s.rehearsal p act)) ≡ true →
      ComesTo s.rehearsal p act (λ step. (cause s.rehearsal step ≡ None) × IsOpen s step)
  may_so h = free_by (step_of s.rehearsal p act) refl h

  pub so_may : ComesTo s.rehearsal p act (λ step. (cause s.rehearsal step ≡ None) × IsOpen s step) →
      is_none (act_reason s (step_of s.rehearsal p act)) ≡ true
  unfolding step_reason
  so_may h =
      ap is_none (ap (act_reason s) h.1 ∙ ap (reason_by (barred s h.0)) h.2.0 ∙ ap (λ o. reason_by o None) (open_passes s h.0 h.2.1))
