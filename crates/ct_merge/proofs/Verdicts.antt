-- What logs come to that stand at a line.
use Rattle.ct_merge.proofs.Common.{◌≡◌, ℕ, Bool, true, false, List, sym, subst, refl, if◌then◌else◌, Vec, IsLawful, Rehearsal, Setting}
use Rattle.ct_merge.proofs.Common.{IsTakenFrom, Taken, IsCulprit, IsCulpritAt, halted_at, AllWait, HasNoMerge, NeverMerges, is_ended}
use Rattle.ct_merge.proofs.Common.{is_limit, is_wait, LogLine, OwnFault, Culprit}
use Rattle.ct_merge.specs.Verdicts.{IfAccepted, IfRefused, IfStopped, verdict_at}
use Rattle.ct_merge.specs.declared.verdict.Verdict.{Verdict}
use Rattle.ct_merge.specs.declared.verdict.Verdict.TheVariants.{Refused, Incomplete, Limited}
use Rattle.ct_merge.proofs.Circles.{refused_none}
use Rattle.ct_merge.proofs.Standing.{some_waits}
use Rattle.ct_merge.proofs.Held.{waiting_none}

-- what is so of each verdict that its reason allows
by_reason : (P : Verdict → Type 0) (c : Culprit) (v : Verdict) → v ≡ verdict_at c → P (Incomplete c) → P (Limited c) →
    (is_ended c.why ≡ false → is_limit c.why ≡ false → P (Refused c)) → P v
by_reason P c v e cut limited refused = subst P (sym e) (by_tests (is_ended c.why) refl (is_limit c.why) refl)
  where
    by_tests : (ends : Bool) → is_ended c.why ≡ ends → (limits : Bool) → is_limit c.why ≡ limits →
        P (if ends then Incomplete c else if limits then Limited c else Refused c)
    by_tests true _ limits _ = cut
    by_tests false _ true _ = limited
    by_tests false here false free = refused here free

-- nothing is accepted
pub accepted_at : (v : Verdict) (c : Culprit) (fact : Rehearsal → Type 0) → v ≡ verdict_at c → IfAccepted v fact
accepted_at v c fact e = by_reason (λ v. IfAccepted v fact) c v e tt tt (λ _ _. tt)

-- what is so of the line is so of the one that is told
pub stopped_at : (v : Verdict) (c : Culprit) (fact : Culprit → Type 0) → v ≡ verdict_at c → fact c → IfStopped v fact
stopped_at v c fact e h = by_reason (λ v. IfStopped v fact) c v e h h (λ _ _. h)

-- its reason says which verdict it is
pub told_at : (v : Verdict) (c : Culprit) → v ≡ verdict_at c → IfStopped v (λ it. v ≡ verdict_at it)
told_at v c e = stopped_at v c (λ it. v ≡ verdict_at it) e e

-- where logs are refused, nothing that begins with them has a merge
pub refused_at : (s : Setting) (cells : ℕ) (logs : List (Vec LogLine)) (v : Verdict) (c : Culprit) → v ≡ verdict_at c →
    IsCulprit s cells logs c → IfRefused v (λ it. NeverMerges s logs)
refused_at s cells logs v c e h = by_reason (λ v. IfRefused v (λ it. NeverMerges s logs)) c v e tt tt (refused_none s cells logs c h)

-- a line that is refused by itself doesn't wait
pub none_halted : (s : Setting) (logs : List (Vec LogLine)) (v : Verdict) (t : Taken) (f : OwnFault) → v ≡ verdict_at (halted_at t f) →
    IfStopped v (λ it. is_wait it.why ≡ true → HasNoMerge s logs)
none_halted s logs v t f e = stopped_at v (halted_at t f) (λ it. is_wait it.why ≡ true → HasNoMerge s logs) e (λ waits. absurd (cc))

-- logs of which each waits or is over have no merge, where one is not over
pub none_waiting : (logs : List (Vec LogLine)) (v : Verdict) (t : Taken) (c culprit : Culprit) → v ≡ verdict_at c → IsLawful t.rehearsal →
    IsTakenFrom logs t → AllWait logs t → IsCulpritAt logs t culprit →
    IfStopped v (λ it. is_wait it.why ≡ true → HasNoMerge t.rehearsal.setting logs)
none_waiting logs v t c culprit e law taken all h =
    stopped_at v c (λ it. is_wait it.why ≡ true → HasNoMerge t.rehearsal.setting logs) e
    (λ waits. waiting_none logs t law.runs taken all (some_waits logs t culprit h))

pub ruleset judged = (accepted_at, stopped_at, told_at, refused_at, none_halted)

pub ruleset ended = (accepted_at, stopped_at, told_at, refused_at, none_waiting)
