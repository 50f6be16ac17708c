-- Envelopes that the network brings once more.
use Rattle.ct_merge.proofs.Common.{◌≡◌, ◌≢◌, ℕ, Bool, true, false, not, ◌==◌, List, [], ◌∷◌, ◌++◌, Option, Some, None, Ok, Err, arith, inr}
use Rattle.ct_merge.proofs.Common.{ap, sym, ◌∙◌, refl, subst, length, IfSome, is_member, Refusal, Crashed, NoSuchMember, NotWaiting, at}
use Rattle.ct_merge.proofs.Common.{cause, first_fault, limit, presence, IsLawful, IsPresent, is_waiting, Rehearsal, extended, line_of}
use Rattle.ct_merge.proofs.Common.{state_of, is_crashed, envelopes, Repeat, some-none, some-same, or_left, or_right, self_number}
use Rattle.ct_merge.proofs.Common.{cause-passed, UnlessShort, is_short, LineFault, IsSerialOf, IsThereFor, received, IsSentAs, IsAsked}
use Rattle.ct_merge.proofs.Common.{IsFaultAt, IsRefusedBy, is_full, FullName, LogAct, LogLine, Line}
use Rattle.ct_model.specs.Waiting.{changed, has_serial, serials_to}
use Rattle.ct_model.specs.Waiting.LineChange.{Restores}
use Rattle.ct_model.specs.declared.step.Step.TheVariants.{Receive}
use Rattle.ct_model.proofs.Basics.Serials.{has_serial-append}
use Rattle.ct_model.proofs.Record.Causes.{cause-absent, none-present}
use Rattle.ct_model.proofs.Record.Taken.{line-step}
use Rattle.ct_model.proofs.Steps.LineSteps.{line_outcome, repeat_taken}
use Rattle.ct_model.proofs.Steps.Receive.{cause-receive-away, receive_waits}
use Rattle.ct_world.specs.World.{verdict}
use Rattle.ct_merge.proofs.Failing.{limit_full}
use Rattle.ct_merge.proofs.Finding.{sent_kept}
use Rattle.ct_merge.proofs.Standing.{refused_so}
use Rattle.ct_merge.proofs.Stopping.{refused, unless_more}
use Rattle.ct_merge.specs.declared.log_act.LogAct.TheVariants as told

-- ---- whether it waits

free_cause : (c : Option Refusal) → verdict c ≡ Ok tt → c ≡ None
free_cause None e = refl
free_cause (Some r) e = absurd (cc)

not_absent : (a b : Bool) → first_fault (at NoSuchMember a ∷ at Crashed b ∷ []) ≡ Some NotWaiting → ⊥
not_absent a b e = grind arith

-- what waits is not refused for that
waits_free : (w : Rehearsal) (p k : ℕ) → is_waiting w p k ≡ true → cause w (Receive p k) ≡ Some NotWaiting → ⊥
waits_free w p k waits e = by_presence (first_fault (presence w.setting (state_of w) p)) refl
  where
    by_presence : (o : Option Refusal) → first_fault (presence w.setting (state_of w) p) ≡ o → ⊥
    by_presence (Some r) is =
        let same : r ≡ NotWaiting = some-same r NotWaiting (sym (cause-absent w (Receive p k) r is) ∙ e) in
        not_absent (not (is_member w.setting.members p)) (is_crashed (state_of w) p) (is ∙ ap Some same)
    by_presence None is =
        let limited : limit w (Receive p k) ≡ Some NotWaiting =
        sym (cause-passed w (Receive p k) NotWaiting (is_waiting w p k) refl (none-present w p is) waits) ∙ e in
        let full : is_full NotWaiting ≡ true = limit_full w (Receive p k) NotWaiting limited in
        cc

pub tested_away : (w : Rehearsal) (p k : ℕ) (r : Refusal) → verdict (cause w (Receive p k)) ≡ Err r → r ≡ NotWaiting →
    is_waiting w p k ≡ false
tested_away w p k r e is = by_test (is_waiting w p k) refl
  where
    by_test : (b : Bool) → is_waiting w p k ≡ b → is_waiting w p k ≡ false
    by_test false waits = waits
    by_test true waits = absurd (waits_free w p k waits (refused_so (cause w (Receive p k)) r e ∙ ap Some is))

pub tested_other : (w : Rehearsal) (p k : ℕ) (r : Refusal) → verdict (cause w (Receive p k)) ≡ Err r → r ≢ NotWaiting → IsPresent w p →
    is_waiting w p k ≡ true
tested_other w p k r e other present = by_test (is_waiting w p k) refl
  where
    by_test : (b : Bool) → is_waiting w p k ≡ b → is_waiting w p k ≡ true
    by_test true waits = waits
    by_test false waits =
        let same : r ≡ NotWaiting = some-same r NotWaiting
        (sym (refused_so (cause w (Receive p k)) r e) ∙ cause-receive-away w p k present waits) in
        absurd (other same)

pub tested_free : (w : Rehearsal) (p k : ℕ) → verdict (cause w (Receive p k)) ≡ Ok tt → is_waiting w p k ≡ true
tested_free w p k e = receive_waits w p k (free_cause (cause w (Receive p k)) e)

pub ruleset tested = (tested_away, tested_other, tested_free)

-- ---- once more

module _ (w : Rehearsal) (p k : ℕ) (law : IsLawful w) (free : cause w (Repeat p k) ≡ None) where
  restored : (line : List ℕ) → has_serial k (changed p (Restores p k) line) ≡ true
  restored line =
      let self : changed p (Restores p k) line ≡ line ++ k ∷ [] = rw (self_number p) refl in
      ap (has_serial k) self ∙ has_serial-append k line (k ∷ [])
      ∙ or_right (has_serial k line) (has_serial k (k ∷ [])) (or_left (k == k) false (self_number k))

  waits_now : is_waiting (extended w (Repeat p k)) p k ≡ true
  waits_now =
      let o = line_outcome w p in
      let coming = serials_to p (length (state_of w).sent) (envelopes w.setting.members o.mail) in
      ap (has_serial k) (line-step w (Repeat p k) o law (repeat_taken w p k law free) p)
      ∙ has_serial-append k (changed p (Restores p k) (line_of w p)) coming
      ∙ or_left (has_serial k (changed p (Restores p k) (line_of w p))) (has_serial k coming) (restored (line_of w p))

-- it has its name still
pub brought_named : (old new : Rehearsal) (p k : ℕ) (act : LogAct) → IsLawful old → IsSerialOf old p act k → cause old (Repeat p k) ≡ None →
    new ≡ extended old (Repeat p k) → IsSerialOf new p act k
brought_named old new p k act law serial free e =
    subst (λ w. IsSerialOf w p act k) (sym e) (by_name (received act) serial)
  where
    by_name : (o : Option FullName) → IfSome o (λ name. IsSentAs old p name k) →
        IfSome o (λ name. IsSentAs (extended old (Repeat p k)) p name k)
    by_name None s = tt
    by_name (Some name) s = sent_kept old (Repeat p k) law free p k name s

act_there : (w : Rehearsal) (p k : ℕ) (act : LogAct) → is_waiting w p k ≡ true → IsThereFor w p act k
act_there w p k (told.Receive name) waits present = waits
act_there w p k _ waits present = tt

-- and waits
pub brought_there : (old new : Rehearsal) (p k : ℕ) (act : LogAct) → IsLawful old → cause old (Repeat p k) ≡ None →
    new ≡ extended old (Repeat p k) → IsThereFor new p act k
brought_there old new p k act law free e =
    subst (λ w. IsThereFor w p act k) (sym e)
    (act_there (extended old (Repeat p k)) p k act (waits_now old p k law free))

-- where it waits, or nothing is received, nothing is brought
pub there_still : (w : Rehearsal) (p k : ℕ) (act : LogAct) → (IsPresent w p → is_waiting w p k ≡ true) → IsThereFor w p act k
there_still w p k (told.Receive name) waits present = waits present
there_still w p k _ waits present = tt

pub there_none : (w : Rehearsal) (p k : ℕ) (act : LogAct) → received act ≡ None → IsThereFor w p act k
there_none w p k (told.Receive name) none present = absurd (cc)
there_none w p k _ none present = tt

asked_again : (w : Rehearsal) (p k : ℕ) (line : LogLine) (act : LogAct) (some : FullName) → line.act ≡ act → received act ≡ Some some →
    IsSerialOf w p act k → is_waiting w p k ≡ false → IsAsked w p line (Repeat p k)
asked_again w p k line (told.Receive name) some is e serial away = record {
  waits = record { sent = serial.sent; away = away };
  is = inr (record { name = name; act = is; serial = k; sent = serial; is = refl });
}
asked_again w p k line _ some is e serial away = some-none some e

-- it may be refused
pub unbrought : (w : Rehearsal) (p k : ℕ) (line : LogLine) (name : FullName) (f : LineFault) → received line.act ≡ Some name →
    IsSerialOf w p line.act k → is_waiting w p k ≡ false → UnlessShort (is_short f) (IsRefusedBy w (Repeat p k) f) →
    UnlessShort (is_short f) (IsFaultAt w p line (Line f))
unbrought w p k line name f some serial away h =
    unless_more (is_short f) (IsRefusedBy w (Repeat p k) f) (IsFaultAt w p line (Line f))
    (refused w p line (Repeat p k) f (inr (asked_again w p k line line.act name refl some serial away))) h

pub ruleset brought = (brought_named, brought_there, there_still, there_none, unbrought)
