-- Lines at which logs stand that are taken as far as they go.
use Rattle.ct_merge.proofs.Common.{◌≡◌, ℕ, ◌+◌, ◌≤◌, ◌||◌, ◌==◌, true, false, List, [], ◌∷◌, ◌++◌, length, inl, inr, refl, sym, ap, subst}
use Rattle.ct_merge.proofs.Common.{◌∙◌, arith, ◌⊎◌, Vec, eq-eqb, nat_tests, All-push, is_member, IsLawful, Setting, or_left, or_right}
use Rattle.ct_merge.proofs.Common.{log_of, IsTakenFrom, Taken, count_of, IsCulprit, AllWait, is_wait, LogLine, Culprit}
use Rattle.std.specs.Prelude.{All}
use Rattle.std.proofs.lemmas.List.Folds.{list_any-append}
use Rattle.ct_merge.specs.Standstills.{AllWaitBut, AreStopped, AreToldTo, IsRefusedLine, IsStoppedAt, IsTold, is_refused, is_waiting}
use Rattle.ct_merge.specs.declared.stopped_line.StoppedLine.{StoppedLine}
use Rattle.ct_merge.specs.declared.stopped_lines.StoppedLines.{StoppedLines}
use Rattle.ct_merge.proofs.Walking.{members_more}

-- one more that is refused by itself
pub refused_more : (s : Setting) (cells : ℕ) (logs : List (Vec LogLine)) (refused more : List Culprit) (c : Culprit) →
    All (IsRefusedLine s cells logs) refused → IsCulprit s cells logs c → is_wait c.why ≡ false → more ≡ refused ++ c ∷ [] →
    All (IsRefusedLine s cells logs) more
refused_more s cells logs refused more c all is fault e =
    subst (λ l. All (IsRefusedLine s cells logs) l) (sym e)
    (All-push (IsRefusedLine s cells logs) refused c all (record { is = is; fault = fault }))

-- one more that stands
pub stopped_more : (logs : List (Vec LogLine)) (t : Taken) (lines more : List StoppedLine) (s : StoppedLine) →
    All (IsStoppedAt logs t) lines → IsStoppedAt logs t s → more ≡ lines ++ s ∷ [] → All (IsStoppedAt logs t) more
stopped_more logs t lines more s all at e = subst (λ l. All (IsStoppedAt logs t) l) (sym e) (All-push (IsStoppedAt logs t) lines s all at)

-- ---- a line of each log

module _ (logs : List (Vec LogLine)) (t : Taken) (refused : List Culprit) where
  nobody : (p : ℕ) → is_member 0 p ≡ true → ⊥
  nobody p e = grind (arith, nat_tests)

  pub told_none : (lines : List StoppedLine) → AreToldTo logs t refused lines 0
  told_none lines p member = absurd (nobody p member)

  told_next : (lines more : List StoppedLine) (i : ℕ) → AreToldTo logs t refused lines i →
      ((p : ℕ) → is_waiting lines p ≡ true → is_waiting more p ≡ true) → IsTold logs t refused more (i + 1) →
      AreToldTo logs t refused more (i + 1)
  told_next lines more i before kept here =
      members_more (λ p. IsTold logs t refused more p) i (λ p it. still p (before p it)) here
    where
      still : (p : ℕ) → IsTold logs t refused lines p → IsTold logs t refused more p
      still p (inl over) = inl over
      still p (inr (inl stands)) = inr (inl stands)
      still p (inr (inr waits)) = inr (inr (kept p waits))

  -- its log is over, or refused there
  pub told_before : (lines : List StoppedLine) (i p : ℕ) → p ≡ i + 1 → AreToldTo logs t refused lines i →
      ((length (log_of logs p) ≤ count_of t.counts p) ⊎ (is_refused refused p (count_of t.counts p) ≡ true)) →
      AreToldTo logs t refused lines (i + 1)
  told_before lines i p e before told =
      told_next lines lines i before (λ q h. h) (subst (λ q. IsTold logs t refused lines q) e (here told))
    where
      here : ((length (log_of logs p) ≤ count_of t.counts p) ⊎ (is_refused refused p (count_of t.counts p) ≡ true)) →
          IsTold logs t refused lines p
      here (inl over) = inl over
      here (inr stands) = inr (inl stands)

  -- its line is told now
  pub told_pushed : (lines more : List StoppedLine) (s : StoppedLine) (i p : ℕ) → p ≡ i + 1 → AreToldTo logs t refused lines i →
      s.member ≡ p → more ≡ lines ++ s ∷ [] → AreToldTo logs t refused more (i + 1)
  told_pushed lines more s i p e before member pushed =
      told_next lines more i before (λ q h. more_told q ∙ or_left (is_waiting lines q) (is_waiting (s ∷ []) q) h)
      (inr (inr (more_told (i + 1) ∙ or_right (is_waiting lines (i + 1)) (is_waiting (s ∷ []) (i + 1)) now)))
    where
      more_told : (q : ℕ) → is_waiting more q ≡ (is_waiting lines q || is_waiting (s ∷ []) q)
      more_told q = ap (λ l. is_waiting l q) pushed ∙ list_any-append (λ (x : StoppedLine). x.member == q) lines (s ∷ [])

      now : is_waiting (s ∷ []) (i + 1) ≡ true
      now = or_left (s.member == (i + 1)) false (eq-eqb s.member (i + 1) (member ∙ e))

pub ruleset all_told = (stopped_more, told_none, told_before, told_pushed)

-- ---- all of them

-- a line is told of each log that is not over
pub stopped_all : (s : Setting) (cells : ℕ) (logs : List (Vec LogLine)) (lines : StoppedLines) (t : Taken) (seen : List Culprit) →
    IsLawful t.rehearsal → t.rehearsal.setting ≡ s → t.rehearsal.cells ≡ cells → IsTakenFrom logs t →
    All (IsRefusedLine s cells logs) lines.refused.items → All (IsStoppedAt logs t) lines.waiting.items → seen ≡ lines.refused.items →
    AreToldTo logs t seen lines.waiting.items t.rehearsal.setting.members → lines.run.rehearsal ≡ t.rehearsal →
    AreStopped s cells logs lines
stopped_all s cells logs lines t seen law group room taken refused waiting same each run = record {
  so_far = t;
  run = run;
  lawful = law;
  group = group;
  room = room;
  taken = taken;
  refused = refused;
  waiting = waiting;
  each =
      subst (λ (z : Setting). AreToldTo logs t lines.refused.items lines.waiting.items z.members) group
      (subst (λ l. AreToldTo logs t l lines.waiting.items t.rehearsal.setting.members) same each);
}

-- where none is refused, each waits
pub all_wait : (logs : List (Vec LogLine)) (t : Taken) → AllWaitBut logs t [] → AllWait logs t
all_wait logs t h p member = h p member refl
