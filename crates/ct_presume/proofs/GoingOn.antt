-- Logs whose ends may be lost.
use Rattle.std.proofs.Common.{◌≡◌, ◌≢◌, ℕ, zero, suc, ◌≤◌, ◌++◌, Bool, true, false, List, [], ◌∷◌, inl, inr, sym, ap, subst, refl, ◌∙◌}
use Rattle.std.proofs.Common.{arith, length, take, append-nil, append_assoc}
use Rattle.std.specs.Global.{Vec}
use Rattle.std.specs.List.{AllZip}
use Rattle.std.specs.Prelude.{None, IfOk, Result, Ok, Err, if◌then◌else◌}
use Rattle.std.proofs.lemmas.Bool.{cases_eq}
use Rattle.ct_names.specs.Prefix.{IsPrefix}
use Rattle.ct_model.specs.Rehearsal.{Rehearsal}
use Rattle.ct_model.specs.Setting.{Setting}
use Rattle.ct_merge.specs.Logs.{IsMerge, IsTold, log_of, own}
use Rattle.ct_merge.specs.Stops.{IsCulprit}
use Rattle.ct_merge.specs.Verdicts.{IfAccepted, IfRefused, verdict_at}
use Rattle.ct_merge.specs.Waits.{AllBegin, HasNoMerge, NeverMerges, is_ended, is_limit, is_wait}
use Rattle.ct_merge.specs.declared.log_line.LogLine.{LogLine}
use Rattle.ct_merge.specs.declared.verdict.Culprit.{Culprit}
use Rattle.ct_merge.specs.declared.verdict.Verdict.{Verdict}
use Rattle.ct_merge.specs.declared.verdict.Why.{Why}
use Rattle.ct_merge.specs.declared.verdict.Why.TheVariants.{Ended}
use Rattle.ct_merge.specs.declared.verdict.Verdict.TheVariants.{Accepted, Refused, Incomplete, Limited}
use Rattle.ct_presume.specs.Presuming.{AllOpenWith}
use Rattle.ct_presume.specs.declared.presumption.Presumption.{Presumption}

-- ---- logs that begin others

-- logs begin themselves
pub begun_self : (logs : List (Vec LogLine)) → AllBegin logs logs
begun_self logs p = ([], append-nil (log_of logs p))

-- logs that begin others begin those that begin with these
pub begun_on : (logs more most : List (Vec LogLine)) → AllBegin logs more → AllBegin more most → AllBegin logs most
begun_on logs more most a b p =
    ((a p).0 ++ (b p).0, sym (append_assoc (log_of logs p) (a p).0 (b p).0) ∙ ap (λ l. l ++ (b p).0) (a p).1 ∙ (b p).1)

-- p's log goes on with a line
pub begun_more : (old new : List (Vec LogLine)) (p : ℕ) (line : LogLine) → log_of new p ≡ log_of old p ++ line ∷ [] →
    ((q : ℕ) → 1 ≤ q → q ≢ p → log_of new q ≡ log_of old q) → AllBegin old new
begun_more old new p line here others = all
  where
    at : (q : ℕ) → 1 ≤ q → IsPrefix (log_of old q) (log_of new q)
    at q some = elim (cases_eq q p) [
      | inl same ↦ (line ∷ [], ap (λ x. log_of old x ++ line ∷ []) same ∙ sym here ∙ sym (ap (log_of new) same))
      | inr other ↦ ([], append-nil (log_of old q) ∙ sym (others q some other))
    ]

    all : (q : ℕ) → IsPrefix (log_of old q) (log_of new q)
    all zero = at 1 (omega arith)
    all (suc q) = at (suc q) (omega arith)

pub ruleset going = (begun_self, begun_on, begun_more)

-- ---- what is accepted

-- what is so of lists place by place is so of their fronts
front : {A B : Type 0} (R : A → B → Type 0) (xs : List A) (ys zs : List B) → AllZip R xs (ys ++ zs) → AllZip R (take (length ys) xs) ys
front R [] (y ∷ ys) zs h = absurd h
front R (x ∷ xs) (y ∷ ys) zs h = (h.0, front R xs ys zs h.1)
front R xs _ zs h = tt

-- a merge of logs opens with those that they begin with
pub opens : (w : Rehearsal) (logs more : List (Vec LogLine)) → AllBegin logs more → IsMerge w more → AllOpenWith w logs
opens w logs more begun merged p member =
    front IsTold (own w p) (log_of logs p) (begun p).0
    (subst (λ l. AllZip IsTold (own w p) l) (sym (begun p).1) (merged p member))

-- so does what is accepted
opened : (v : Verdict) (logs more : List (Vec LogLine)) → AllBegin logs more → IfAccepted v (λ w. IsMerge w more) →
    IfAccepted v (λ w. AllOpenWith w logs)
opened (Accepted world) logs more begun merged = opens world.rehearsal logs more begun merged
opened _ logs more begun merged = tt

pub opens_all : {E : Type 0} (r : Result Presumption E) (logs : List (Vec LogLine)) → IfOk r (λ p. AllBegin logs p.logs.items) →
    IfOk r (λ p. IfAccepted p.verdict (λ w. IsMerge w p.logs.items)) →
    IfOk r (λ p. IfAccepted p.verdict (λ w. AllOpenWith w logs))
opens_all (Ok p) logs begun merged = opened p.verdict logs p.logs.items begun merged
opens_all (Err e) logs begun merged = tt

-- ---- what is not

-- logs that are refused are never merged
pub never_at : (s : Setting) (now logs : List (Vec LogLine)) (v : Verdict) (culprit : Culprit) → now ≡ logs → v ≡ Refused culprit →
    IfRefused v (λ culprit. NeverMerges s now) → NeverMerges s logs
never_at s now logs v culprit same is refused =
    subst (λ (l : List (Vec LogLine)). NeverMerges s l) same
    (subst (λ (v : Verdict). IfRefused v (λ culprit. NeverMerges s now)) is refused)

-- the same line, whatever is told of the run behind which it stands
pub culprit_alone : (s : Setting) (cells : ℕ) (logs : List (Vec LogLine)) (culprit : Culprit) → IsCulprit s cells logs culprit →
    IsCulprit s cells logs (record culprit { run = None })
culprit_alone s cells logs culprit h = record {
  so_far = h.so_far;
  group = h.group;
  room = h.room;
  lawful = h.lawful;
  taken = h.taken;
  is = record { in_group = h.is.in_group; place = h.is.place; stand = h.is.stand };
  run = tt;
}

-- it is incomplete still, and told as that
pub told_alone : (culprit : Culprit) → is_ended culprit.why ≡ true →
    Incomplete (record culprit { run = None }) ≡ verdict_at (record culprit { run = None })
told_alone culprit ended =
    let alone : Culprit = record culprit { run = None } in
    sym (ap (λ ends. if ends then Incomplete alone else if is_limit culprit.why then Limited alone else Refused alone) ended)

-- logs are incomplete at a line that waits for a log that has ended
pub cut_ended : (culprit : Culprit) → Incomplete culprit ≡ verdict_at culprit → is_ended culprit.why ≡ true
cut_ended culprit e = by_tests (is_ended culprit.why) (is_limit culprit.why) refl e
  where
    by_tests : (a b : Bool) → is_ended culprit.why ≡ a →
        Incomplete culprit ≡ (if a then Incomplete culprit else if b then Limited culprit else Refused culprit) →
        is_ended culprit.why ≡ true
    by_tests true b is e = is
    by_tests false true is e = absurd (cc)
    by_tests false false is e = absurd (cc)

ended_waits : (why : Why) → is_ended why ≡ true → is_wait why ≡ true
ended_waits (Ended p) e = refl
ended_waits _ e = absurd (cc)

-- so that they have no merge
pub cut_none : (s : Setting) (logs : List (Vec LogLine)) (culprit : Culprit) → Incomplete culprit ≡ verdict_at culprit →
    (is_wait culprit.why ≡ true → HasNoMerge s logs) → HasNoMerge s logs
cut_none s logs culprit e none = none (ended_waits culprit.why (cut_ended culprit e))

-- where there is no merge, nothing is owed of those that have one
pub none_needed : (s : Setting) (logs : List (Vec LogLine)) (fact : Type 0) → HasNoMerge s logs → (HasNoMerge s logs → ⊥) → fact
none_needed s logs fact none some = absurd (some none)

pub ruleset presumed = (begun_self, culprit_alone, told_alone, cut_ended, cut_none)
