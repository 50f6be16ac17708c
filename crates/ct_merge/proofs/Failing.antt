-- Logs with a line that is refused by itself have no merge.
use Rattle.ct_merge.proofs.Common.{◌≡◌, ℕ, ◌+◌, Bool, true, false, List, [], ◌∷◌, Option, Some, None, IfSome, length, inl, inr, refl, sym}
use Rattle.ct_merge.proofs.Common.{ap, ◌∙◌, subst, arith, ◌==◌, Vec, is_member, Refusal, Full, actor, test, cause, first_fault, limits}
use Rattle.ct_merge.proofs.Common.{or_else, tests, IsAway, IsLawful, IsPresent, NamesWaiting, is_waiting, Outcome, next, row, Rehearsal}
use Rattle.ct_merge.proofs.Common.{extended, line_of, state_of, Setting, State, is_crashed, member, Step, made-then, some-none}
use Rattle.ct_merge.proofs.Common.{cause-allowed, own_tests-is, next-is, is_stated, outcome, IsBarred, IsThere, down, refused, own}
use Rattle.ct_merge.proofs.Common.{step_of, IsRun, Differs, IsAsked, IsCulprit, IsFaultAt, IsRepetition, IsWhy, Tells, NeverMerges, is_full}
use Rattle.ct_merge.proofs.Common.{is_limit, is_wait, FullName, LogAct, Receive, Crash, LogLine, OwnFault, Culprit, Why, Fault}
use Rattle.ct_names.specs.declared.limit.Limit.TheVariants.{Submissions, Instances, Rounds, Envelopes, Cells, Steps}
use Rattle.ct_model.specs.Cause.{limit}
use Rattle.ct_model.specs.Phases.{adopt, choose, conclude, enter, suspect}
use Rattle.ct_model.proofs.Record.Causes.{cause-present, own_tests}
use Rattle.ct_merge.proofs.Held.{one_held}
use Rattle.ct_merge.proofs.Local.{acts_of}
use Rattle.ct_merge.proofs.SentOnce.{one_receipt}
use Rattle.ct_merge.proofs.Telling.{IsReceipt, IsToldStep, receipt_by, told_step}
use Rattle.ct_model.specs.declared.step.Step.TheVariants as step
use Rattle.ct_play.specs.declared.line_fault.LineFault.TheVariants as fault
use Rattle.ct_merge.specs.declared.own_fault.OwnFault.TheVariants as own_fault

-- ---- the step of a line

-- a line tells of one step, where that is enabled
same_act : (p k l : ℕ) (act : LogAct) → ((name : FullName) → act ≡ Receive name → k ≡ l) → step_of p k act ≡ step_of p l act
same_act p k l (Receive name) same = ap (λ i. step.Receive p i) (same name refl)
same_act p k l _ same = refl

there_by : (w : Rehearsal) (p k : ℕ) (name : FullName) → IsReceipt w p k name → IsThere w p name
there_by w p k name f = record { serial = k; wire = f.wire; from = f.from; carried = f.carried }

one_step : (w : Rehearsal) → IsRun w → (p : ℕ) (a b : Step) (act : LogAct) (g h : State) → IsToldStep w p a act → IsToldStep w p b act →
    next w.setting (state_of w) a ≡ Some g → next w.setting (state_of w) b ≡ Some h → a ≡ b
one_step w r p a b act g h x y e f =
    x.is ∙ (same_act p x.serial y.serial act (λ name is.
    one_receipt w r p x.serial y.serial name (receipt_by w p a act g x e name is) (receipt_by w p b act h y f name is))
    ∙ sym y.is)

-- ---- refusals

first_full : (a b c d e f : Bool) (r : Refusal) → first_fault (test (Full Submissions) a ∷ test (Full Instances) b ∷ test (Full Rounds) c
    ∷ test (Full Envelopes) d ∷ test (Full Cells) e ∷ test (Full Steps) f ∷ []) ≡ Some r → is_full r ≡ true
first_full a b c d e f r h = grind arith

pub limit_full : (w : Rehearsal) (step : Step) (r : Refusal) → limit w step ≡ Some r → is_full r ≡ true
unfolding limit
limit_full w step r e =
    let made = made-then (λ h. first_fault (limits w.cells (length w.steps + 1) h (actor step))) (next w.setting (state_of w) step) r e in
    first_full _ _ _ _ _ _ r made.gives

-- a test of the own ones of a step of a member fires that is there and up, where no limit is the cause
own_cause : (w : Rehearsal) (step : Step) (r : Refusal) → cause w step ≡ Some r → is_full r ≡ false → IsPresent w (actor step) →
    first_fault (own_tests w step) ≡ Some r
own_cause w step r e own present = by_tests (first_fault (own_tests w step)) refl
  where
    by_tests : (o : Option Refusal) → first_fault (own_tests w step) ≡ o → first_fault (own_tests w step) ≡ Some r
    by_tests None is =
        let limited : limit w step ≡ Some r = sym (cause-present w step present ∙ ap (λ o. or_else o (limit w step)) is) ∙ e in
        let full : is_full r ≡ true = limit_full w step r limited in
        absurd (cc)
    by_tests (Some x) is = is ∙ (sym (cause-present w step present ∙ ap (λ o. or_else o (limit w step)) is) ∙ e)

-- where a row gives an outcome, no test of a told step fires, but that of a receipt
row_free : (w : Rehearsal) (p k : ℕ) (act : LogAct) (o : Outcome) → ((name : FullName) → act ≡ Receive name → ⊥) →
    row w.setting (state_of w) p (member (state_of w) p) (step_of p k act) ≡ Some o →
    first_fault (tests w.setting (state_of w) (member (state_of w) p) (line_of w p) (step_of p k act)) ≡ None
unfolding enter choose adopt suspect conclude
row_free w p k (Receive name) o other e = absurd (other name refl)
row_free w p k Crash o other e = refl
row_free w p k _ o other e = grind arith

-- no test of a receipt fires where the envelope waits, nor one of a repetition where it was sent and doesn't
receipt_free : (w : Rehearsal) (p k : ℕ) → is_waiting w p k ≡ true → first_fault (own_tests w (step.Receive p k)) ≡ None
receipt_free w p k waits = ap first_fault (own_tests-is w (step.Receive p k)) ∙ grind arith

repeat_free : (w : Rehearsal) (p k : ℕ) → IsAway w p k → first_fault (own_tests w (step.Repeat p k)) ≡ None
repeat_free w p k h = let sent = h.sent in let away = h.away in ap first_fault (own_tests-is w (step.Repeat p k)) ∙ grind arith

-- ---- a line that is refused by itself

module _ (w : Rehearsal) (law : IsLawful w) (p : ℕ) (line : LogLine) (stays : ℕ → Bool) where
  -- a step that is allowed and comes to something else
  differs_barred : (came : List ℕ) → Differs w p line came → IsBarred w stays p line × (is_member w.setting.members p ≡ true)
  differs_barred came d =
      let ok = cause-allowed w d.step law d.allowed in
      let t = next-is w.setting (state_of w) d.step ok.after ok.enabled in
      let x = told_step w p d.step line.act (d.tells).act (d.tells).actor in (
        refused (λ name is. there_by w p x.serial name (receipt_by w p d.step line.act ok.after x ok.enabled name is))
            (λ k h e told.
            let y = told_step w p (step_of p k line.act) line.act told.act (acts_of p k line.act) in
            let same : step_of p k line.act ≡ d.step =
            one_step w law.runs p (step_of p k line.act) d.step line.act h ok.after y x e ok.enabled in
            let says : is_stated (outcome (extended w (step_of p k line.act)) (step_of p k line.act)) (d.other).statement ≡ true =
            subst (λ o. IfSome o (λ said. is_stated (outcome (extended w (step_of p k line.act)) (step_of p k line.act)) said ≡ true))
            (d.other).stated told.said in
            let so : is_stated (outcome (extended w d.step) d.step) (d.other).statement ≡ true =
            subst (λ z. is_stated (outcome (extended w z) z) (d.other).statement ≡ true) same says in
            let other : is_stated (outcome (extended w d.step) d.step) (d.other).statement ≡ false = (d.other).other in
            absurd (cc)),
        subst (λ q. is_member w.setting.members q ≡ true) (d.tells).actor t.in_group,
      )

  -- a step that its rules refuse
  refused_barred : (tried : Step) (r : Refusal) → first_fault (own_tests w tried) ≡ Some r → NamesWaiting w tried → Tells w p line tried →
      IsBarred w stays p line
  refused_barred tried r fires waits tells =
      let x = told_step w p tried line.act tells.act tells.actor in
      let other : (name : FullName) → line.act ≡ Receive name → ⊥ = λ name is.
      let same : tried ≡ step.Receive p x.serial = x.is ∙ ap (λ a. step_of p x.serial a) is in
      some-none r (sym (receipt_free w p x.serial (subst (λ z. NamesWaiting w z) same waits))
      ∙ subst (λ z. first_fault (own_tests w z) ≡ Some r) same fires)
      in
      refused (λ name is. absurd (other name is)) (λ k h e told.
      let same : step_of p k line.act ≡ tried = same_act p k x.serial line.act (λ name is. absurd (other name is)) ∙ sym x.is in
      let t = next-is w.setting (state_of w) (step_of p k line.act) h e in
      let row_is = subst (λ q. row w.setting (state_of w) q (member (state_of w) q) (step_of p k line.act) ≡ Some t.outcome)
      (acts_of p k line.act) t.row in
      let none : first_fault (own_tests w (step_of p k line.act)) ≡ None =
      ap first_fault (own_tests-is w (step_of p k line.act))
      ∙ (ap (λ q. first_fault (tests w.setting (state_of w) (member (state_of w) q) (line_of w q) (step_of p k line.act)))
      (acts_of p k line.act) ∙ row_free w p k line.act t.outcome other row_is) in
      let some : first_fault (own_tests w (step_of p k line.act)) ≡ Some r =
      subst (λ z. first_fault (own_tests w z) ≡ Some r) (sym same) fires in
      some-none r (sym none ∙ some))

  -- the network is refused no repetition that is asked for, but by a limit
  not_repeated : (step : Step) (r : Refusal) → first_fault (own_tests w step) ≡ Some r → NamesWaiting w step →
      IsRepetition w p line step → ⊥
  not_repeated step r fires waits again =
      let away : IsAway w p again.serial = subst (λ z. NamesWaiting w z) again.is waits in
      some-none r (sym (repeat_free w p again.serial away) ∙ subst (λ z. first_fault (own_tests w z) ≡ Some r) again.is fires)

  -- whichever it is, where no limit is in the way
  fault_barred : is_member w.setting.members p ≡ true → (f : OwnFault) → is_limit (Fault f) ≡ false → IsFaultAt w p line f →
      IsBarred w stays p line
  fault_barred here (own_fault.Line (fault.Refused tried r)) own h = by_presence (is_crashed (state_of w) p) refl
    where
      asked : IsPresent w p → IsAsked w p line tried → IsBarred w stays p line
      asked present a = elim a.is [
        | inl tells ↦
            let at : IsPresent w (actor tried) = subst (λ q. IsPresent w q) (sym tells.actor) present in
            refused_barred tried r (own_cause w tried r h.0 own at) a.waits tells
        | inr again ↦
            let at : IsPresent w (actor tried) = subst (λ z. IsPresent w (actor z)) (sym again.is) present in
            absurd (not_repeated tried r (own_cause w tried r h.0 own at) a.waits again)
      ]

      by_presence : (b : Bool) → is_crashed (state_of w) p ≡ b → IsBarred w stays p line
      by_presence true crashed = down crashed
      by_presence false up =
          let present : IsPresent w p = record { in_group = here; up = up } in
          elim h.1 [
            | inl out ↦ absurd (out.absent present)
            | inr a ↦ asked present a
          ]
  fault_barred here (own_fault.CameTo q came) own h = (differs_barred came h.1).0
  fault_barred here (own_fault.Line f) own h = absurd h

-- ---- logs with such a line

pub fault_none : (s : Setting) (cells : ℕ) (logs : List (Vec LogLine)) (culprit : Culprit) → IsCulprit s cells logs culprit →
    is_wait culprit.why ≡ false → is_limit culprit.why ≡ false → NeverMerges s logs
fault_none s cells logs culprit c calm free =
    subst (λ z. NeverMerges z logs) c.group
    (one_held logs c.so_far c.lawful.runs c.taken culprit.member c.is.in_group (record {
      line = (c.is.stand).line;
      next = (c.is.stand).next;
      barred = why_barred culprit.why calm free (c.is.stand).reason;
    }))
  where
    why_barred : (why : Why) → is_wait why ≡ false → is_limit why ≡ false →
        IsWhy logs (c.so_far) culprit.member (c.is.stand).line why →
        IsBarred (c.so_far).rehearsal (λ q. q == culprit.member) culprit.member (c.is.stand).line
    why_barred (Fault f) calm free reason =
        fault_barred (c.so_far).rehearsal c.lawful culprit.member (c.is.stand).line (λ q. q == culprit.member) (c.is).in_group f free
        reason
    why_barred _ calm free reason = absurd (cc)
