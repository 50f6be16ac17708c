-- Lines of several logs, which may grow.
use Rattle.ct_merge.proofs.Common.{◌≡◌, ◌≢◌, ℕ, ◌≤◌, true, List, [], inl, inr, ap, sym, subst, ◌∙◌, arith, ◌-◌, take}
use Rattle.ct_merge.proofs.Common.{◌++◌, ◌∷◌, append-nil, length-append, filter, Result, Ok, Err, Vec, AllZip, cases_eq}
use Rattle.ct_merge.proofs.Common.{eqb_tells, take_all, take-append-le, is_member, Rehearsal, empty, IsLog, IsMerge, IsTold, is_own, log_of}
use Rattle.ct_merge.proofs.Common.{IsLater, IsTakenFrom, IsTakenTo, IsWholeTo, LeavesOthers, Taken, count_of, Growing, IsBare, LogLine}
use Rattle.ct_merge.proofs.Common.{option_map_or, All-get_or, slice_get_cases}
use Rattle.std.specs.Prelude.{slice_index, All, OnErr, OnOk}
use Rattle.ct_names.proofs.Groups.{member_from_one}
use Rattle.ct_merge.specs.Logs.{moments, own}

taken_as : (old new : Rehearsal) (p : ℕ) (log : List LogLine) (a b : ℕ) → own new p ≡ own old p → b ≡ a → IsTakenTo old p log a →
    IsTakenTo new p log b
taken_as old new p log a b same e h =
    let here : IsTakenTo new p log a = record { within = h.within; is = subst (λ l. AllZip IsTold l (take a log)) (sym same) h.is } in
    subst (λ n. IsTakenTo new p log n) (sym e) here

-- more lines of p's log
pub advanced : (logs : List (Vec LogLine)) (old mid new : Taken) (p count : ℕ) → IsTakenFrom logs old →
    IsTakenTo mid.rehearsal p (log_of logs p) count → LeavesOthers p old.rehearsal mid.rehearsal →
    IsLater old.rehearsal mid.rehearsal → mid.counts ≡ old.counts → new.rehearsal ≡ mid.rehearsal → count_of new.counts p ≡ count →
    ((q : ℕ) → 1 ≤ q → q ≢ p → count_of new.counts q ≡ count_of mid.counts q) → IsTakenFrom logs new
advanced logs old mid new p count before here others group counts same at elsewhere q in_group =
    let n : new.rehearsal.setting.members ≡ old.rehearsal.setting.members =
    ap (λ (w : Rehearsal). w.setting.members) same ∙ ap (λ s. s.members) group.setting in
    let member : is_member old.rehearsal.setting.members q ≡ true = subst (λ m. is_member m q ≡ true) n in_group in
    elim (eqb_tells q p) as (λ _. IsTakenTo new.rehearsal q (log_of logs q) (count_of new.counts q)) [
      | inl is ↦
          taken_as mid.rehearsal new.rehearsal q (log_of logs q) count (count_of new.counts q)
          (ap (λ (w : Rehearsal). own w q) same) (ap (count_of new.counts) is.1 ∙ at)
          (subst (λ x. IsTakenTo mid.rehearsal x (log_of logs x) count) (sym is.1) here)
      | inr ne ↦
          taken_as old.rehearsal new.rehearsal q (log_of logs q) (count_of old.counts q) (count_of new.counts q)
          (ap (λ (w : Rehearsal). own w q) same ∙ others q ne.1)
          (elsewhere q (member_from_one old.rehearsal.setting.members q member) ne.1 ∙ ap (λ l. count_of l q) counts)
          (before q member)
    ]

-- no steps are nobody's own
none_own : (w : Rehearsal) (p : ℕ) → w.steps ≡ [] → own w p ≡ []
unfolding own moments
none_own w p e = ap (λ l. filter (is_own p) (moments (empty w.setting w.cells) l)) e

-- at first nothing was taken
pub nothing_taken : (logs : List (Vec LogLine)) (t : Taken) → t.rehearsal.steps ≡ [] → ((i : ℕ) → slice_index t.counts i ≡ 0) →
    IsTakenFrom logs t
nothing_taken logs t none zero p member = record {
  within = omega (arith, zero (p - 1));
  is = subst (λ l. AllZip IsTold l (take (count_of t.counts p) (log_of logs p))) (sym (none_own t.rehearsal p none))
      (subst (λ n. AllZip IsTold [] (take n (log_of logs p))) (sym (zero (p - 1))) tt);
}

-- where logs have no more lines, the record is a merge of them
pub all_taken : (logs : List (Vec LogLine)) (t : Taken) → IsTakenFrom logs t →
    IsWholeTo logs t.counts t.rehearsal.setting.members → IsMerge t.rehearsal logs
all_taken logs t taken whole p member =
    let h : IsTakenTo t.rehearsal p (log_of logs p) (count_of t.counts p) = taken p member in
    subst (λ l. IsLog t.rehearsal p l) (take_all (count_of t.counts p) (log_of logs p) (whole p member)) h.is

-- lines at the end of a log change nothing of what was taken of it
pub taken_longer : (w : Rehearsal) (p : ℕ) (log more : List LogLine) (rest : List LogLine) (count : ℕ) → more ≡ log ++ rest →
    IsTakenTo w p log count → IsTakenTo w p more count
taken_longer w p log more rest count e h =
    let whole : IsTakenTo w p (log ++ rest) count =
    record {
      within = omega (arith, h.within, length-append log rest);
      is = subst (λ l. IsLog w p l) (sym (take-append-le count log rest h.within)) h.is;
    } in
    subst (λ l. IsTakenTo w p l count) (sym e) whole

-- p's log goes on with these lines
grown_on : (old new : List (Vec LogLine)) (t : Taken) (p : ℕ) (rest : List LogLine) → IsTakenFrom old t →
    log_of new p ≡ log_of old p ++ rest → ((q : ℕ) → 1 ≤ q → q ≢ p → log_of new q ≡ log_of old q) → IsTakenFrom new t
grown_on old new t p rest before here others q in_group = elim (cases_eq q p) [
  | inl same ↦
      taken_longer t.rehearsal q (log_of old q) (log_of new q) rest (count_of t.counts q)
      (ap (log_of new) same ∙ here ∙ ap (λ x. log_of old x ++ rest) (sym same)) (before q in_group)
  | inr other ↦
      subst (λ l. IsTakenTo t.rehearsal q l (count_of t.counts q))
      (sym (others q (member_from_one t.rehearsal.setting.members q in_group) other)) (before q in_group)
]

-- the same, as the line found room or not
pub grown : {A E : Type 0} (r : Result A E) (old new : List (Vec LogLine)) (t : Taken) (p : ℕ) (line : LogLine) → IsTakenFrom old t →
    OnOk r (log_of new p ≡ log_of old p ++ line ∷ []) → OnErr r (log_of new p ≡ log_of old p) →
    ((q : ℕ) → 1 ≤ q → q ≢ p → log_of new q ≡ log_of old q) → IsTakenFrom new t
grown (Ok x) old new t p line before here kept others = grown_on old new t p (line ∷ []) before here others
grown (Err e) old new t p line before here kept others = grown_on old new t p [] before (kept ∙ sym (append-nil (log_of old p))) others

-- logs without lines
pub none_in : (logs : List (Vec LogLine)) → All IsBare logs → (p : ℕ) → log_of logs p ≡ []
none_in logs bare p = elim (slice_get_cases logs (p - 1)).1 as (λ _. log_of logs p ≡ []) [
  | inl is ↦
      ap (λ o. option_map_or (λ log. log.items) o []) is.2
      ∙ subst IsBare is.3 (All-get_or IsBare logs (p - 1) is.0 is.1 bare)
  | inr past ↦ ap (λ o. option_map_or (λ (log : Vec LogLine). log.items) o []) past.1
]

-- the same group and the same logs
pub same_group : (self m : Growing) (old new : Taken) (logs : List (Vec LogLine)) → IsLater old.rehearsal new.rehearsal →
    record { setting = old.rehearsal.setting; cells = old.rehearsal.cells; logs = logs } ≡ self →
    m ≡ record { setting = new.rehearsal.setting; cells = new.rehearsal.cells; logs = logs } → m ≡ self
same_group self m old new logs group before after =
    after
    ∙ ap (λ s. record { setting = s; cells = new.rehearsal.cells; logs = logs }) group.setting
    ∙ ap (λ c. record { setting = old.rehearsal.setting; cells = c; logs = logs }) group.cells
    ∙ before
