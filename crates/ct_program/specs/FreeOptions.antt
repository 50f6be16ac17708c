-- The ranges of the options of a free run.
use Rattle.std.specs.Prelude.{◌≤◌, ⊤}
use Rattle.ct_names.specs.declared.limit.TheConstants.{MAX_BOUND, MAX_CELLS, MAX_MEMBERS}
use Rattle.ct_model.specs.Setting.{Setting}
use Rattle.ct_program.specs.declared.free_options.FreeOptions.{FreeOptions}
use Rattle.ct_program.specs.declared.free_options.TheConstants.{MAX_EACH, MAX_RATE, MAX_TURNS}
use Rattle.ct_program.specs.declared.call.Call.{Call}
use Rattle.ct_program.specs.declared.call.Call.TheVariants.{Replay, Free}

-- each option is in its range
pub record InRange (o : FreeOptions) : Type 0 where
  pub members : (1 ≤ o.members) × (o.members ≤ MAX_MEMBERS)
  pub turns : o.turns ≤ MAX_TURNS
  pub seed : o.seed ≤ 4294967295
  pub rate : o.rate ≤ MAX_RATE
  pub cells : o.cells ≤ MAX_CELLS
  pub submit : o.submit ≤ MAX_EACH
  pub crash : o.crash ≤ MAX_MEMBERS
  pub postpone : o.postpone ≤ MAX_EACH
  pub lose : o.lose ≤ MAX_EACH
  pub repeat : o.repeat ≤ MAX_EACH
  pub batch : (1 ≤ o.batch) × (o.batch ≤ MAX_BOUND)

-- the setting that the options ask for
abbrev pub setting_of : FreeOptions → Setting
setting_of o = record { members = o.members; bound = o.batch }

-- a free run is asked for with each option in its range
abbrev pub FreeInRange : Call → Type 0
FreeInRange Replay = ⊤
FreeInRange (Free o) = InRange o
