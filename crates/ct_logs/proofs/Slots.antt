-- Items of members.
use Rattle.std.proofs.Common.{◌≡◌, ℕ, zero, suc, ◌-◌, ◌<◌, ◌≤◌, true, List, [], ◌∷◌, get_or, length, set, take, Option, Some, None}
use Rattle.std.proofs.Common.{arith, inl, inr, refl, sym, ap, ◌∙◌}
use Rattle.std.specs.Prelude.{◌≢◌, slice_get}
use Rattle.std.specs.Global.{Vec}
use Rattle.std.specs.Option.{option_map_or}
use Rattle.std.proofs.lemmas.Bool.{cases_eq, cases_lt}
use Rattle.std.proofs.lemmas.Bool.Decides.{nat_tests}
use Rattle.std.proofs.lemmas.List.{get_or-set_same, length-set, length-take, take_all, take-take}
use Rattle.std.proofs.lemmas.Option.{slice_get-get_or, slice_get_past}
use Rattle.ct_names.specs.Group.{is_member}
use Rattle.ct_merge.specs.Expected.{Expecting, expected_of}
use Rattle.ct_merge.specs.Logs.{log_of}
use Rattle.ct_merge.specs.declared.log_line.LogLine.{LogLine}
use Rattle.ct_logs.specs.Sets.{AreFirstLines, file_in}

-- ---- files

pub filed_by : (kept : Option (Option ℕ)) (file : ℕ) → file_in kept ≡ Some file → kept ≡ Some (Some file)
filed_by (Some (Some other)) file h = ap Some h
filed_by _ file h = absurd (cc)

pub not_filed : (kept : Option (Option ℕ)) (file : ℕ) → file_in kept ≡ None → kept ≡ Some (Some file) → ⊥
not_filed (Some None) file h at = cc
not_filed _ file h at = cc

-- ---- first ones

pub slice_get-take : {A : Type 0} (n : ℕ) (items : List A) (k : ℕ) → k < n → slice_get (take n items) k ≡ slice_get items k
slice_get-take zero items k h = absurd (omega (arith, h))
slice_get-take (suc n) [] k h = refl
slice_get-take (suc n) (x ∷ xs) zero h = refl
slice_get-take (suc n) (x ∷ xs) (suc k) h = slice_get-take n xs k (omega arith)

-- the first n logs have those of the first n members
pub log_in_first : (n : ℕ) (logs : List (Vec LogLine)) (p : ℕ) → is_member n p ≡ true → log_of (take n logs) p ≡ log_of logs p
log_in_first n logs p member =
    let lt : p - 1 < n = grind (arith, nat_tests) in
    ap (λ o. option_map_or (λ (log : Vec LogLine). log.items) o []) (slice_get-take n logs (p - 1) lt)

pub expected_in_first : (n : ℕ) (expected : List Expecting) (p : ℕ) → is_member n p ≡ true →
    expected_of (take n expected) p ≡ expected_of expected p
expected_in_first n expected p member =
    let lt : p - 1 < n = grind (arith, nat_tests) in
    ap (λ o. option_map_or (λ (x : Expecting). x.list) o []) (slice_get-take n expected (p - 1) lt)

-- ---- one log is another

slice_get-set_other : {A : Type 0} (items : List A) (i k : ℕ) (item : A) → k ≢ i → slice_get (set items i item) k ≡ slice_get items k
slice_get-set_other [] i k item other = refl
slice_get-set_other (x ∷ xs) zero zero item other = absurd (other refl)
slice_get-set_other (x ∷ xs) zero (suc k) item other = refl
slice_get-set_other (x ∷ xs) (suc i) zero item other = refl
slice_get-set_other (x ∷ xs) (suc i) (suc k) item other = slice_get-set_other xs i k item (λ e. other (ap suc e))

module _ (logs : List (Vec LogLine)) (i p : ℕ) where
  pub log_at : (d : Vec LogLine) → p - 1 ≡ i → i < length logs → log_of logs p ≡ (get_or logs i d).items
  log_at d at lt = ap (λ o. option_map_or (λ (log : Vec LogLine). log.items) o []) (ap (slice_get logs) at ∙ slice_get-get_or logs i d lt)

  pub log_set_here : (log : Vec LogLine) → p - 1 ≡ i → i < length logs → log_of (set logs i log) p ≡ log.items
  log_set_here log at lt =
      let there : slice_get (set logs i log) i ≡ Some log =
      slice_get-get_or (set logs i log) i log (omega (arith, lt, length-set logs i log))
      ∙ ap Some (get_or-set_same logs i log log lt) in
      ap (λ o. option_map_or (λ (l : Vec LogLine). l.items) o []) (ap (slice_get (set logs i log)) at ∙ there)

  pub log_set_other : (log : Vec LogLine) → p - 1 ≢ i → log_of (set logs i log) p ≡ log_of logs p
  log_set_other log other = ap (λ o. option_map_or (λ (l : Vec LogLine). l.items) o []) (slice_get-set_other logs i (p - 1) log other)

pub log_past : (logs : List (Vec LogLine)) (p : ℕ) → length logs ≤ p - 1 → log_of logs p ≡ []
log_past logs p past = ap (λ o. option_map_or (λ (log : Vec LogLine). log.items) o []) (slice_get_past logs (p - 1) past)

-- ---- first lines

-- lines of which first ones were taken have more behind them
pub take_both : (m n : ℕ) (xs : List LogLine) → (count : ℕ) × (take m (take n xs) ≡ take count xs)
take_both m n xs = elim (cases_lt m n) [
  | inl less ↦ (m, take-take m n xs (omega arith))
  | inr more ↦ (n, take_all m (take n xs) (omega (arith, length-take n xs)))
]

pub own_lines : (lines : List (Vec LogLine)) → AreFirstLines lines lines
own_lines lines p =
    let log : List LogLine = log_of lines p in
    (length log, sym (take_all (length log) log (omega arith)))

-- of one of them fewer lines are left
pub cut_more : (logs whole : List (Vec LogLine)) (i n : ℕ) (d log : Vec LogLine) → i < length logs →
    log.items ≡ take n (get_or logs i d).items → AreFirstLines logs whole → AreFirstLines (set logs i log) whole
cut_more logs whole i n d log lt is first p = elim (cases_eq (p - 1) i) [
  | inl here ↦
      let f = first p in
      let t = take_both n f.0 (log_of whole p) in
      (t.0, log_set_here logs i p log here lt ∙ is ∙ ap (take n) (sym (log_at logs i p d here lt)) ∙ ap (take n) f.1 ∙ t.1)
  | inr other ↦
      let f = first p in
      (f.0, log_set_other logs i p log other ∙ f.1)
]
