-- How what logs expect is tested along a run.
use Rattle.std.specs.Prelude.{◌≡◌, ℕ, ◌≤◌, ◌<◌, true, List, ◌∷◌, ◌++◌, Some, length, slice_get}
use Rattle.ct_names.specs.Group.{is_member}
use Rattle.ct_model.specs.Rehearsal.{Rehearsal}
use Rattle.ct_model.specs.declared.step.Step.{Step}
use Rattle.ct_play.specs.Played.{Played}
use Rattle.ct_merge.specs.Expected.{Expecting, Holds, IsMet, behind, expected_of}
use Rattle.ct_merge.specs.Logs.{own}
use Rattle.ct_merge.specs.Merging.{count_of}
use Rattle.ct_merge.specs.declared.expectation.Expectation.{Expectation}

-- ---- one member's

-- those from this one on stand behind so many acts or more
abbrev pub AreFrom : List Expectation → ℕ → ℕ → Type 0
AreFrom list next place = (i : ℕ) (e : Expectation) → next ≤ i → slice_get list i ≡ Some e → place ≤ e.place

-- those from one up to another stand behind so many acts, and hold
abbrev pub AreMet : List Expectation → ℕ → ℕ → ℕ → Played → Type 0
AreMet list from to place s =
    (i : ℕ) (e : Expectation) → from ≤ i → i < to → slice_get list i ≡ Some e → (e.place ≡ place) × IsMet e.goal s

-- this one stands behind so many acts, and doesn't hold
pub record IsFailing (list : List Expectation) (next place : ℕ) (s : Played) : Type 0 where
  pub expectation : Expectation
  pub there : slice_get list next ≡ Some expectation
  pub behind : expectation.place ≡ place
  pub fails : IsMet expectation.goal s → ⊥

-- ---- the run

-- how far it is gone through: how many own steps each member took, and how many first ones were tested of what its log expects
pub record Walked : Type 0 where
  pub stage : Played
  pub taken : List ℕ
  pub tested : List ℕ

-- after the record this step and others come to that one
pub record GoesOnTo (v : Rehearsal) (step : Step) (w : Rehearsal) : Type 0 where
  pub more : List Step
  pub is : w ≡ record v { steps = v.steps ++ step ∷ more }

-- what p's log expects and was tested holds in the whole record, and the others stand at p's place or behind it
pub record IsTested (w : Rehearsal) (list : List Expectation) (x : Walked) (p : ℕ) : Type 0 where
  pub taken : count_of x.taken p ≡ length (own x.stage.rehearsal p)
  pub held : (i : ℕ) (e : Expectation) → i < count_of x.tested p → slice_get list i ≡ Some e → Holds w p e
  pub ahead : AreFrom list (count_of x.tested p) (count_of x.taken p)

abbrev pub AreTested : Rehearsal → List Expecting → Walked → Type 0
AreTested w expected x = (p : ℕ) → is_member w.setting.members p ≡ true → IsTested w (expected_of expected p) x p

-- what is expected next of p doesn't hold here, which is its place in the whole record
pub record Fails (w : Rehearsal) (list : List Expectation) (x : Walked) (p : ℕ) : Type 0 where
  pub expectation : Expectation
  pub there : slice_get list (count_of x.tested p) ≡ Some expectation
  pub place : behind w p expectation.place ≡ Some x.stage.rehearsal
  pub fails : IsMet expectation.goal x.stage → ⊥

-- whatever steps come behind this one
abbrev pub StaysTested : Walked → Step → List Expecting → Walked → Type 0
StaysTested old step expected new =
    (w : Rehearsal) → GoesOnTo old.stage.rehearsal step w → AreTested w expected old → AreTested w expected new

abbrev pub FailsBefore : Walked → Step → List Expecting → Walked → ℕ → Type 0
FailsBefore old step expected new p =
    (w : Rehearsal) → GoesOnTo old.stage.rehearsal step w → AreTested w expected old → Fails w (expected_of expected p) new p
