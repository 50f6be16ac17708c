-- What contracts see of a board and of a receipt.
use Rattle.std.specs.Prelude.{ℕ, List, [], map}
use Rattle.std.specs.declared.alloc.Global.{Global}
use Rattle.once_cell.specs.Once.{cell_name}
use Rattle.ct_names.specs.Batch.{Batch}

-- the names of the cells, place by place
abbrev pub names_of : List (Global × ℕ) → List ℕ
names_of cells = map cell_name cells

-- the place that was posted, the name of its cell, and the batch that was posted there
pub record Posted : Type 0 where
  pub place : ℕ
  pub cell : ℕ
  pub batch : Batch

-- what stands where a note knows nothing
abbrev pub no_batch : Batch
no_batch = record { instance = 0; messages = [] }
