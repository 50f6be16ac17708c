-- What contracts see of a watcher.
use Rattle.std.specs.Prelude.{◌≡◌, ◌≤◌, ℕ, List, Option, IsSome, All, flat_map, length, take}
use Rattle.ct_names.specs.Message.{Message}
use Rattle.ct_names.specs.Batch.{Batch}
use Rattle.ct_board.specs.Known.{somes}

-- the names of its board's cells, what its note of each cell knows, and how many batches it read and was told of, both
-- from place 0 on
pub record Watched : Type 0 where
  pub cells : List ℕ
  pub notes : List (Option Batch)
  pub read : ℕ
  pub told : ℕ

-- the batches that it read, in order
abbrev pub batches_read : Watched → List Batch
batches_read w = somes (take w.read w.notes)

-- the batches that it was told of, in order
abbrev pub batches_told : Watched → List Batch
batches_told w = somes (take w.told w.notes)

-- the messages of the batches, in order
abbrev pub messages_of : List Batch → List Message
messages_of batches = flat_map (λ b. b.messages) batches

-- there is a note of each cell, and those of the batches that it read or was told of know them
pub record IsWatching (w : Watched) : Type 0 where
  pub one_each : length w.notes ≡ length w.cells
  pub read_within : w.read ≤ length w.notes
  pub told_within : w.told ≤ length w.notes
  pub read_known : All IsSome (take w.read w.notes)
  pub told_known : All IsSome (take w.told w.notes)
