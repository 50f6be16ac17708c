-- Lines at which logs stop.
use Rattle.ct_merge.proofs.Common.{◌≡◌, ◌≢◌, ℕ, ◌≤◌, Bool, true, false, List, Some, sym, subst, refl, Vec, slice_get, is_member, Rehearsal}
use Rattle.ct_merge.proofs.Common.{Setting, UnlessShort, is_short, log_of, IsLater, IsTakenFrom, Taken, count_of, IsCulprit, IsHalt}
use Rattle.ct_merge.proofs.Common.{IsStuckIn, halted_at, line_fault_of, OwnFault, LogLine}
use Rattle.ct_merge.proofs.Advancing.{advanced}
use Rattle.ct_merge.proofs.Stopping.{unless_more}

module _ (logs : List (Vec LogLine)) (old new : Taken) (p count : ℕ) (f : OwnFault) where
  culprit : is_member old.rehearsal.setting.members new.last ≡ true → IsTakenFrom logs old → count_of new.counts new.last ≡ count →
      ((q : ℕ) → 1 ≤ q → q ≢ new.last → count_of new.counts q ≡ count_of old.counts q) →
      IsStuckIn old.rehearsal new.last (log_of logs new.last) count f →
      IsCulprit old.rehearsal.setting old.rehearsal.cells logs (halted_at new f)
  culprit member before here elsewhere h =
      let t : Taken = record { rehearsal = h.at; counts = new.counts; last = new.last } in
      let mid : Taken = record { rehearsal = h.at; counts = old.counts; last = new.last } in
      record {
        so_far = t;
        group = h.group.setting;
        room = h.group.cells;
        lawful = h.lawful;
        taken = advanced logs old mid t new.last count before h.taken h.others h.group refl refl here elsewhere;
        is = record {
          in_group = subst (λ (s : Setting). is_member s.members new.last ≡ true) (sym h.group.setting) member;
          place = refl;
          stand = record {
            line = h.line;
            next = subst (λ n. slice_get (log_of logs new.last) n ≡ Some h.line) (sym here) h.there;
            reason = h.fails;
          };
        };
        run = tt;
      }

  -- the line at which p's log stops
  pub halted : is_member old.rehearsal.setting.members p ≡ true → IsTakenFrom logs old → new.last ≡ p → count_of new.counts p ≡ count →
      ((q : ℕ) → 1 ≤ q → q ≢ p → count_of new.counts q ≡ count_of old.counts q) →
      UnlessShort (is_short (line_fault_of f)) (IsStuckIn old.rehearsal p (log_of logs p) count f) → IsHalt old.rehearsal logs new f
  halted member before last =
      subst (λ q. count_of new.counts q ≡ count → ((x : ℕ) → 1 ≤ x → x ≢ q → count_of new.counts x ≡ count_of old.counts x) →
      UnlessShort (is_short (line_fault_of f)) (IsStuckIn old.rehearsal q (log_of logs q) count f) → IsHalt old.rehearsal logs new f) last
      (λ here elsewhere h.
      let there = subst (λ q. is_member old.rehearsal.setting.members q ≡ true) (sym last) member in
      unless_more (is_short (line_fault_of f)) (IsStuckIn old.rehearsal new.last (log_of logs new.last) count f)
      (IsCulprit old.rehearsal.setting old.rehearsal.cells logs (halted_at new f)) (culprit there before here elsewhere) h)

-- behind more steps
pub halted_on : (old mid : Rehearsal) (logs : List (Vec LogLine)) (t : Taken) (f : OwnFault) → IsLater old mid → IsHalt mid logs t f →
    IsHalt old logs t f
halted_on old mid logs t f later h =
    subst (λ (s : Setting). UnlessShort (is_short (line_fault_of f)) (IsCulprit s old.cells logs (halted_at t f))) later.setting
    (subst (λ c. UnlessShort (is_short (line_fault_of f)) (IsCulprit mid.setting c logs (halted_at t f))) later.cells h)

not_short : (b : Bool) (x : Type 0) → b ≡ false → UnlessShort b x → x
not_short true x e h = absurd (cc)
not_short false x e h = h

-- where nothing is short, there is a line
pub is_culprit : (w : Rehearsal) (logs : List (Vec LogLine)) (t : Taken) (f : OwnFault) → is_short (line_fault_of f) ≡ false →
    IsHalt w logs t f → IsCulprit w.setting w.cells logs (halted_at t f)
is_culprit w logs t f e h = not_short (is_short (line_fault_of f)) (IsCulprit w.setting w.cells logs (halted_at t f)) e h
