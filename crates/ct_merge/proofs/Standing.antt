-- Logs that stand.
use Rattle.ct_merge.proofs.Common.{◌≡◌, ℕ, zero, suc, ◌≤◌, ◌<◌, Bool, true, false, List, Option, Some, None, Err, inl, length, slice_get}
use Rattle.ct_merge.proofs.Common.{ap, sym, subst, ◌∙◌, arith, refl, Vec, log_of, Taken, count_of, received, Rehearsal, state_of, IsCulprit}
use Rattle.ct_merge.proofs.Common.{IsCulpritAt, IsLed, IsNext, IsStand, IsWait, Receives, IsUnsent, SomeWaits, WaitsAt, FullName, LogAct}
use Rattle.ct_merge.proofs.Common.{Receive, LogLine, Culprit, Fault, Never, Ended, Circle, cause, Repeat, Refusal, Crashed, NotSent}
use Rattle.ct_merge.proofs.Common.{Refused, Line, IsLawful, IsPresent, some-none, some-same, and_left, is_member, is_some, IsTakenFrom}
use Rattle.ct_model.specs.Next.{wire_to}
use Rattle.ct_merge.specs.Sending.{may_come}
use Rattle.ct_world.specs.World.{WorldView, verdict}
use Rattle.ct_model.proofs.Steps.LineSteps.{cause-repeat-unsent}
use Rattle.ct_merge.proofs.Moments.{get_below, get_there}

abbrev receives : (w : Rehearsal) (p : ℕ) (line : LogLine) (name : FullName) (b : Bool) → line.act ≡ Receive name → IsUnsent w p name →
    may_come w p name ≡ b → Receives w p line name.from b
receives w p line name b e unsent m = record { name = name; act = e; from = refl; unsent = unsent; may = m }

-- what a line waits for was not sent
pub waits_unsent : (logs : List (Vec LogLine)) (t : Taken) (p : ℕ) (line : LogLine) (name : FullName) → WaitsAt logs t p →
    slice_get (log_of logs p) (count_of t.counts p) ≡ Some line → received line.act ≡ Some name → IsUnsent t.rehearsal p name
waits_unsent logs t p line name waits there e =
    let h = waits line there in
    let same : h.name ≡ name = some-same h.name name (sym (ap received h.act) ∙ e) in
    subst (λ n. IsUnsent t.rehearsal p n) same h.unsent

-- it waits for something
pub waits_some : (logs : List (Vec LogLine)) (t : Taken) (p : ℕ) (line : LogLine) → WaitsAt logs t p →
    slice_get (log_of logs p) (count_of t.counts p) ≡ Some line → received line.act ≡ None → ⊥
waits_some logs t p line waits there e =
    let h = waits line there in
    some-none h.name (sym e ∙ ap received h.act)

-- the act that receives it
pub receipt_is : (act : LogAct) (name : FullName) → received act ≡ Some name → act ≡ Receive name
receipt_is (Receive other) name e =
    let same : other ≡ name = some-same other name e in
    ap Receive same
receipt_is _ name e = some-none name e

-- the rules refuse all that is brought to a member that crashed
pub refused_so : (c : Option Refusal) (refusal : Refusal) → verdict c ≡ Err refusal → c ≡ Some refusal
refused_so None refusal e = absurd (cc)
refused_so (Some other) refusal e =
    let same : other ≡ refusal = cc in
    ap Some same

nothing : (w : Rehearsal) (p : ℕ) → is_some (wire_to (state_of w) p 0) ≡ false
unfolding wire_to
nothing w p = refl

not_up : (w : Rehearsal) (p : ℕ) → IsPresent w p → cause w (Repeat p 0) ≡ Some Crashed → ⊥
not_up w p present is =
    let same : NotSent ≡ Crashed = some-same NotSent Crashed (sym (cause-repeat-unsent w p 0 present (nothing w p)) ∙ is) in
    cc

module _ (logs : List (Vec LogLine)) (t : Taken) (p : ℕ) (line : LogLine) (name : FullName) (next : IsNext logs t p line)
    (act : line.act ≡ Receive name) (unsent : IsUnsent t.rehearsal p name)
  where
    pub never : may_come t.rehearsal p name ≡ false → IsStand logs t p (Never name.from)
    never m = record { line = line; next = next; reason = receives t.rehearsal p line name false act unsent m }

    pub ended : may_come t.rehearsal p name ≡ true → length (log_of logs name.from) ≤ count_of t.counts name.from →
        IsStand logs t p (Ended name.from)
    ended m over = record { line = line; next = next; reason = (receives t.rehearsal p line name true act unsent m, over) }

    pub crashed : verdict (cause t.rehearsal (Repeat p 0)) ≡ Err Crashed → IsStand logs t p (Fault (Line (Refused (Repeat p 0) Crashed)))
    crashed e =
        let is : cause t.rehearsal (Repeat p 0) ≡ Some Crashed = refused_so (cause t.rehearsal (Repeat p 0)) Crashed e in
        record {
          line = line;
          next = next;
          reason = (is, inl (record { actor = refl; absent = λ present. not_up t.rehearsal p present is }));
        }

    pub awaits : may_come t.rehearsal p name ≡ true → count_of t.counts name.from < length (log_of logs name.from) →
        IsWait logs t p name.from
    awaits m more = record { line = line; next = next; receives = receives t.rehearsal p line name true act unsent m; more = more }

pub ruleset waits = (never, ended, awaits, crashed)

pub ruleset receipts = (waits_unsent, waits_some, receipt_is)

-- it is a member's log that a line waits for
pub sender_in : (logs : List (Vec LogLine)) (t : Taken) (p q : ℕ) → IsWait logs t p q → is_member t.rehearsal.setting.members q ≡ true
unfolding may_come
sender_in logs t p q h =
    let r = h.receives in
    subst (λ x. is_member t.rehearsal.setting.members x ≡ true) r.from (and_left _ _ r.may)

-- so are fewer waits
pub led_fewer : (logs : List (Vec LogLine)) (t : Taken) (n m p : ℕ) → n ≤ m → IsLed logs t m p → IsLed logs t n p
led_fewer logs t zero m p low led = tt
led_fewer logs t (suc n) zero p low led = absurd (omega arith)
led_fewer logs t (suc n) (suc m) p low led = (led.0, led.1, led.2, led_fewer logs t n m led.0 (omega arith) led.3)

-- as many waits as members lead there
pub circle : (logs : List (Vec LogLine)) (t : Taken) (p : ℕ) (culprit : Culprit) →
    is_member t.rehearsal.setting.members p ≡ true → count_of t.counts p < length (log_of logs p) →
    IsLed logs t t.rehearsal.setting.members p → culprit.member ≡ p → culprit.place ≡ count_of t.counts p → culprit.why ≡ Circle →
    IsCulpritAt logs t culprit
circle logs t p culprit inside more led member place why =
    let at : (line : LogLine) × (slice_get (log_of logs p) (count_of t.counts p) ≡ Some line) =
    get_there (log_of logs p) (count_of t.counts p) more in
    let stand : IsStand logs t p Circle = record { line = at.0; next = at.1; reason = led } in
    record {
      in_group = subst (λ q. is_member t.rehearsal.setting.members q ≡ true) (sym member) inside;
      place = ap (count_of t.counts) member ∙ sym place;
      stand =
          subst (λ w. IsStand logs t culprit.member w) (sym why)
          (subst (λ q. IsStand logs t q Circle) (sym member) stand);
    }

-- the line stands behind this run
pub culprit_behind : (logs : List (Vec LogLine)) (t : Taken) (culprit : Culprit) (world : WorldView) → IsLawful t.rehearsal →
    IsTakenFrom logs t → IsCulpritAt logs t culprit → world.rehearsal ≡ t.rehearsal →
    IsCulprit t.rehearsal.setting t.rehearsal.cells logs (record culprit { run = Some world })
culprit_behind logs t culprit world lawful taken h same = record {
  so_far = t;
  group = refl;
  room = refl;
  lawful = lawful;
  taken = taken;
  is = record { in_group = h.in_group; place = h.place; stand = h.stand };
  run = same;
}

-- a log is not over there
pub some_waits : (logs : List (Vec LogLine)) (t : Taken) (culprit : Culprit) → IsCulpritAt logs t culprit → SomeWaits logs t
some_waits logs t culprit h = record {
  member = culprit.member;
  in_group = h.in_group;
  more = get_below (log_of logs culprit.member) (count_of t.counts culprit.member) (h.stand).line (h.stand).next;
}
