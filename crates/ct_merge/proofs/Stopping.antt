-- Lines that are refused by themselves.
use Rattle.ct_merge.proofs.Common.{◌≡◌, ℕ, Bool, true, false, List, Some, None, inl, inr, ap, sym, subst, ◌∙◌, refl, Option, Ok, Err, ◌⊎◌}
use Rattle.ct_merge.proofs.Common.{slice_get, is_member, cause, IsLawful, IsPresent, Rehearsal, extended, state_of, is_crashed, Step}
use Rattle.ct_merge.proofs.Common.{UnlessShort, is_short, LineFault, IsLater, IsSerialOf, IsTakenTo, IsThereFor, LeavesAll, LeavesOthers}
use Rattle.ct_merge.proofs.Common.{step_of, IsAsked, IsFaultAt, IsOfAbsent, IsOther, IsOutcome, IsRefusedBy, IsStuck, IsStuckIn}
use Rattle.ct_merge.proofs.Common.{line_fault_of, OwnFault, Line, CameTo, LogLine, Refusal, Played, Refused}
use Rattle.ct_merge.proofs.Local.{acts_of}
use Rattle.ct_merge.proofs.Taking.{act_is, later_on, same_later, taken_still}
use Rattle.ct_play.specs.Acting.{stepped, unless_refused}
use Rattle.ct_play.specs.declared.line_fault.LineFault.TheVariants as fault

-- what is more of a fault, where nothing is short
pub unless_more : (b : Bool) (x y : Type 0) → (x → y) → UnlessShort b x → UnlessShort b y
unless_more true x y f h = tt
unless_more false x y f h = f h

-- p is there and up, or is not
present_or : (w : Rehearsal) (p : ℕ) → IsPresent w p ⊎ (IsPresent w p → ⊥)
present_or w p = by_tests (is_member w.setting.members p) refl (is_crashed (state_of w) p) refl
  where
    by_tests : (a : Bool) → is_member w.setting.members p ≡ a → (b : Bool) → is_crashed (state_of w) p ≡ b →
        IsPresent w p ⊎ (IsPresent w p → ⊥)
    by_tests false out b crashed = inr (λ present. let here = present.in_group in absurd (cc))
    by_tests true here true crashed = inr (λ present. let up = present.up in absurd (cc))
    by_tests true here false up = inl (record { in_group = here; up = up })

-- the step of p's line is asked for, unless p is absent
asked : (w : Rehearsal) (p k : ℕ) (line : LogLine) → IsSerialOf w p line.act k → IsThereFor w p line.act k →
    IsOfAbsent w p (step_of p k line.act) ⊎ IsAsked w p line (step_of p k line.act)
asked w p k line serial there = elim (present_or w p) [
  | inl present ↦
      inr (record { waits = there present; is = inl (record { actor = acts_of p k line.act; act = act_is w p k line.act serial }) })
  | inr absent ↦ inl (record { actor = acts_of p k line.act; absent = absent })
]

-- what the rules refuse of it
pub refused : (w : Rehearsal) (p : ℕ) (line : LogLine) (step : Step) (f : LineFault) → IsOfAbsent w p step ⊎ IsAsked w p line step →
    IsRefusedBy w step f → IsFaultAt w p line (Line f)
refused w p line step (fault.Refused tried refusal) why h =
    (ap (λ s. cause w s) h.0 ∙ h.1, subst (λ s. IsOfAbsent w p s ⊎ IsAsked w p line s) (sym h.0) why)
refused w p line step _ why h = absurd h

-- the envelope of a line is not brought again
pub stuck_before : (w : Rehearsal) (p : ℕ) (line : LogLine) (f : LineFault) → IsLawful w →
    UnlessShort (is_short f) (IsFaultAt w p line (Line f)) → UnlessShort (is_short f) (IsStuck w p line (Line f))
stuck_before w p line f lawful h =
    unless_more (is_short f) (IsFaultAt w p line (Line f)) (IsStuck w p line (Line f))
    (λ u. record { at = w; lawful = lawful; leaves = λ q. refl; group = same_later w; fails = u }) h

-- its step is refused
pub stuck_at : (old mid : Rehearsal) (p k : ℕ) (line : LogLine) (f : LineFault) → IsLawful mid → LeavesAll old mid → IsLater old mid →
    IsSerialOf mid p line.act k → IsThereFor mid p line.act k → UnlessShort (is_short f) (IsRefusedBy mid (step_of p k line.act) f) →
    UnlessShort (is_short f) (IsStuck old p line (Line f))
stuck_at old mid p k line f lawful leaves later serial there h =
    unless_more (is_short f) (IsRefusedBy mid (step_of p k line.act) f) (IsStuck old p line (Line f))
    (λ r. record {
      at = mid;
      lawful = lawful;
      leaves = leaves;
      group = later;
      fails = refused mid p line (step_of p k line.act) f (asked mid p k line serial there) r;
    }) h

differs : (mid new : Rehearsal) (p k : ℕ) (line : LogLine) (f : OwnFault) → IsSerialOf mid p line.act k →
    cause mid (step_of p k line.act) ≡ None → new ≡ extended mid (step_of p k line.act) →
    IsOutcome new (step_of p k line.act) line.said f → IsFaultAt mid p line f
differs mid new p k line (Line fault) serial allowed e h = absurd h
differs mid new p k line (CameTo q came) serial allowed e h = (
  h.0 ∙ acts_of p k line.act,
  record {
    step = step_of p k line.act;
    tells = record { actor = acts_of p k line.act; act = act_is mid p k line.act serial };
    allowed = allowed;
    other = subst (λ (w : Rehearsal). IsOther w (step_of p k line.act) line.said came) e h.1;
  },
)

-- it comes to something else than is stated
pub stuck_after : (old mid new : Rehearsal) (p k : ℕ) (line : LogLine) (f : OwnFault) → IsLawful mid → LeavesAll old mid →
    IsLater old mid → IsSerialOf mid p line.act k → cause mid (step_of p k line.act) ≡ None → new ≡ extended mid (step_of p k line.act) →
    UnlessShort (is_short (line_fault_of f)) (IsOutcome new (step_of p k line.act) line.said f) →
    UnlessShort (is_short (line_fault_of f)) (IsStuck old p line f)
stuck_after old mid new p k line f lawful leaves later serial allowed e h =
    unless_more (is_short (line_fault_of f)) (IsOutcome new (step_of p k line.act) line.said f) (IsStuck old p line f)
    (λ r. record { at = mid; lawful = lawful; leaves = leaves; group = later; fails = differs mid new p k line f serial allowed e r }) h

pub ruleset stuck = (stuck_before, stuck_at, stuck_after)

-- so the next line of its log is
pub stuck_next : (old : Rehearsal) (p : ℕ) (log : List LogLine) (count : ℕ) (line : LogLine) (f : OwnFault) → IsTakenTo old p log count →
    slice_get log count ≡ Some line → UnlessShort (is_short (line_fault_of f)) (IsStuck old p line f) →
    UnlessShort (is_short (line_fault_of f)) (IsStuckIn old p log count f)
stuck_next old p log count line f taken there h =
    unless_more (is_short (line_fault_of f)) (IsStuck old p line f) (IsStuckIn old p log count f)
    (λ s. record {
      at = s.at;
      lawful = s.lawful;
      taken = taken_still old s.at p log count s.leaves taken;
      others = λ q ne. s.leaves q;
      group = s.group;
      line = line;
      there = there;
      fails = s.fails;
    }) h

-- behind more lines of it
pub stuck_on : (old mid : Rehearsal) (p : ℕ) (log : List LogLine) (count : ℕ) (f : OwnFault) → LeavesOthers p old mid → IsLater old mid →
    UnlessShort (is_short (line_fault_of f)) (IsStuckIn mid p log count f) →
    UnlessShort (is_short (line_fault_of f)) (IsStuckIn old p log count f)
stuck_on old mid p log count f others later h =
    unless_more (is_short (line_fault_of f)) (IsStuckIn mid p log count f) (IsStuckIn old p log count f)
    (λ s. record {
      at = s.at;
      lawful = s.lawful;
      taken = s.taken;
      others = λ q ne. s.others q ne ∙ others q ne;
      group = later_on old mid s.at later s.group;
      line = s.line;
      there = s.there;
      fails = s.fails;
    }) h

free : (s t : Played) (step : Step) (c : Option Refusal) → unless_refused s step c ≡ Ok t → c ≡ None
free s t step None e = refl
free s t step (Some refusal) e = absurd (cc)

-- the rules allowed it
pub allowed : (s t : Played) (step : Step) → stepped s step ≡ Ok t → cause s.rehearsal step ≡ None
unfolding stepped
allowed s t step e = free s t step (cause s.rehearsal step) e

by_cause : (s : Played) (step : Step) (f : LineFault) (c : Option Refusal) → cause s.rehearsal step ≡ c →
    unless_refused s step c ≡ Err f → IsRefusedBy s.rehearsal step f
by_cause s step f None why e = absurd (cc)
by_cause s step f (Some refusal) why e =
    let same : Refused step refusal ≡ f = cc in
    subst (λ g. IsRefusedBy s.rehearsal step g) same (refl, why)

after_refused : (s : Played) (step : Step) (f : LineFault) → stepped s step ≡ Err f → IsRefusedBy s.rehearsal step f
unfolding stepped
after_refused s step f e = by_cause s step f (cause s.rehearsal step) refl e

-- or refused it
pub step_refused : (s : Played) (step : Step) (f : LineFault) → UnlessShort (is_short f) (stepped s step ≡ Err f) →
    UnlessShort (is_short f) (IsRefusedBy s.rehearsal step f)
step_refused s step f h = unless_more (is_short f) (stepped s step ≡ Err f) (IsRefusedBy s.rehearsal step f) (after_refused s step f) h
