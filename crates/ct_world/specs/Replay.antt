-- What a replay answers.
use Rattle.std.specs.Prelude.{◌≡◌, ℕ, zero, suc, ◌<◌, List, length, slice_get, Some, None}
use Rattle.ct_names.specs.declared.refusal.Refusal.{Refusal}
use Rattle.ct_names.specs.declared.refusal.Refusal.TheVariants.{OutOfMemory}
use Rattle.ct_model.specs.declared.step.Step.{Step}
use Rattle.ct_model.specs.Setting.{Setting}
pub use Rattle.ct_model.specs.Rehearsal.{first_steps}
pub use Rattle.ct_model.specs.Lawful.{AllowsFirst}
use Rattle.ct_world.specs.Posting.{IsRefusal}
use Rattle.ct_world.specs.World.{WorldView}

-- a world of this setting and this many cells after the steps, with nothing prepared
abbrev pub world_after : Setting → ℕ → List Step → WorldView
world_after s cells steps = record { rehearsal = record { setting = s; cells = cells; steps = steps }; prepared = None }

-- step i, counted from 0, is refused, and each before it is allowed
pub record IsRefusedAt (s : Setting) (cells : ℕ) (steps : List Step) (i : ℕ) (refusal : Refusal) : Type 0 where
  pub within : i < length steps
  pub before : AllowsFirst s cells steps i
  pub refused : (step : Step) → slice_get steps i ≡ Some step → IsRefusal (first_steps s cells steps i) step refusal

-- what a replay answers where it fails: at counts from 1, and is 0 where the world could not be made
abbrev pub IsFaultOf : Setting → ℕ → List Step → ℕ → Refusal → Type 0
IsFaultOf s cells steps zero refusal = refusal ≡ OutOfMemory
IsFaultOf s cells steps (suc i) refusal = IsRefusedAt s cells steps i refusal
