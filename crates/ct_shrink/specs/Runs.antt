-- Runs that show a goal.
use Rattle.std.specs.Prelude.{◌≡◌, ℕ, ◌<◌, ◌≤◌, Bool, true, false, List, [], Ok, length, take}
use Rattle.ct_model.specs.Rehearsal.{Rehearsal}
use Rattle.ct_model.specs.declared.step.Step.{Step}
use Rattle.ct_world.specs.Setup.{record_of}
use Rattle.ct_world.specs.declared.setup.Setup.{Setup}
use Rattle.ct_play.specs.Goals.{uncut}
use Rattle.ct_play.specs.Played.{Played}
use Rattle.ct_shrink.specs.Lines.{after_lines}
use Rattle.ct_shrink.specs.declared.line.Line.{Line}

-- the record is that of these lines, each of which is a step of it, and its last state shows the goal
pub record IsRunOf (test : Played → Bool) (setup : Setup) (lines : List Line) (w : Rehearsal) : Type 0 where
  pub same : w ≡ record_of setup w.steps
  pub led : after_lines (uncut (record_of setup [])) lines ≡ Ok (uncut w)
  pub count : length w.steps ≡ length lines
  pub shown : test (uncut w) ≡ true

-- whether the goal is shown after so many steps
abbrev pub shows_after : (Played → Bool) → Setup → List Step → ℕ → Bool
shows_after test setup steps count = test (uncut (record_of setup (take count steps)))

-- it is shown after so many of the steps, and not before
pub record IsShownFirst (test : Played → Bool) (setup : Setup) (steps : List Step) (count : ℕ) : Type 0 where
  pub within : count ≤ length steps
  pub shown : shows_after test setup steps count ≡ true
  pub before : (k : ℕ) → k < count → shows_after test setup steps k ≡ false

-- it is never shown
abbrev pub IsNeverShown : (Played → Bool) → Setup → List Step → Type 0
IsNeverShown test setup steps = (count : ℕ) → count ≤ length steps → shows_after test setup steps count ≡ false

-- the first beginning of the steps that shows it has so many steps at least
abbrev pub IsNoLarger : (Played → Bool) → Setup → List Step → ℕ → Type 0
IsNoLarger test setup steps lines = (count : ℕ) × IsShownFirst test setup steps count × (lines ≤ count)

-- the run of these lines is the first beginning that shows it
pub record IsFirstOf (test : Played → Bool) (setup : Setup) (steps : List Step) (lines : List Line) (w : Rehearsal) : Type 0 where
  pub run : IsRunOf test setup lines w
  pub first : IsShownFirst test setup steps (length lines)
