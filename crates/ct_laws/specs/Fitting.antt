-- Records whose numbers fit the fields that hold them.
use Rattle.std.specs.Prelude.{◌≤◌}
use Rattle.ct_names.specs.declared.limit.TheConstants.{MAX_BOUND, MAX_CELLS, MAX_MEMBERS}
use Rattle.ct_model.specs.Rehearsal.{Rehearsal}
use Rattle.ct_records.specs.Fits.{AllFit}

-- a group of 1 to 16 members, 1,024 cells at most, a bound that a record can name, and steps whose numbers fit
pub record IsFitting (w : Rehearsal) : Type 0 where
  pub some_members : 1 ≤ w.setting.members
  pub few_members : w.setting.members ≤ MAX_MEMBERS
  pub few_bound : w.setting.bound ≤ MAX_BOUND
  pub few_cells : w.cells ≤ MAX_CELLS
  pub fit : AllFit w.steps
