-- What a record comes to, and what its report shows of that.
use Rattle.std.specs.Prelude.{◌≡◌, ℕ, Some}
use Rattle.ct_names.specs.Group.{IsMember}
use Rattle.ct_model.specs.Rehearsal.{Rehearsal, state_of}
use Rattle.ct_model.specs.Run.{run}
use Rattle.ct_model.specs.Safe.{IsSafe, delivered_by}
use Rattle.ct_records.specs.Report.{shown}
use Rattle.ct_table.specs.Table.{table}

-- the record is a run of the algorithm that ends in the state that the report shows; that state is safe; each member is
-- shown with what it delivered there, and with the table that these messages give
pub record IsOutcome (w : Rehearsal) : Type 0 where
  pub runs : run w.setting w.steps ≡ Some (state_of w)
  pub safe : IsSafe w.setting (state_of w)
  pub delivered : (p : ℕ) → IsMember w.setting.members p → (shown w p).delivered ≡ delivered_by (state_of w) p
  pub tables : (p : ℕ) → IsMember w.setting.members p → (shown w p).table ≡ table (shown w p).delivered
