-- What contracts see of a hall, and what its watchers are told.
use Rattle.std.specs.Prelude.{◌≡◌, ℕ, List, Some}
use Rattle.ct_names.specs.Prefix.{IsPrefix}
use Rattle.ct_model.specs.Cause.{order}
use Rattle.ct_model.specs.Rehearsal.{Rehearsal, state_of}
use Rattle.ct_model.specs.Run.{run}
use Rattle.ct_model.specs.Safe.{IsSafe}
use Rattle.ct_board.specs.Watched.{Watched, batches_read, batches_told}

-- the number of members, and the names of the cells of the board
pub record HallView : Type 0 where
  pub members : ℕ
  pub cells : List ℕ

-- the watcher met a world, whose record is a run that ends in a safe state: what it read, and what it was told of before,
-- begins the order of that state's batches, and now it was told of all of them
pub record HasMet (old new : Watched) : Type 0 where
  pub world : Rehearsal
  pub runs : run world.setting world.steps ≡ Some (state_of world)
  pub safe : IsSafe world.setting (state_of world)
  pub read : IsPrefix (batches_read old) (order (state_of world))
  pub told : IsPrefix (batches_told old) (order (state_of world))
  pub tells : batches_told new ≡ order (state_of world)
