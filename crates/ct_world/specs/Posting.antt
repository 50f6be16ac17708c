-- What a step posts, and what refuses it.
use Rattle.std.specs.Prelude.{◌≡◌, ◌⊎◌, ℕ, ◌+◌, ◌-◌, List, [], ◌∷◌, ◌++◌, Option, Some, None, length, slice_get, unwrap_or}
use Rattle.ct_names.specs.Batch.{Batch}
use Rattle.ct_names.specs.declared.refusal.Refusal.{Refusal}
use Rattle.ct_names.specs.declared.refusal.Refusal.TheVariants.{OutOfMemory, Board}
use Rattle.ct_model.specs.declared.step.Step.{Step}
use Rattle.ct_model.specs.Rehearsal.{Rehearsal, state_of}
use Rattle.ct_model.specs.Cause.{cause, order}
use Rattle.ct_model.specs.Order.{WouldPost}
use Rattle.ct_board.specs.Board.{Posted}

-- the receipt is of the batch that joined the order, and was set at its place, the number of its instance less 1, in a
-- board with these cells
pub record IsReceiptOf (cells : List ℕ) (old new : Rehearsal) (receipt : Posted) : Type 0 where
  pub joined : order (state_of new) ≡ order (state_of old) ++ receipt.batch ∷ []
  pub place : receipt.place ≡ length (order (state_of old))
  pub instance : receipt.batch.instance ≡ receipt.place + 1
  pub cell : slice_get cells receipt.place ≡ Some receipt.cell

-- a receipt is there where a batch joined the order, and is of that batch; without one the order stayed
abbrev pub HasPosted : List ℕ → Rehearsal → Rehearsal → Option Posted → Type 0
HasPosted cells old new None = order (state_of new) ≡ order (state_of old)
HasPosted cells old new (Some receipt) = IsReceiptOf cells old new receipt

-- the batch, where there is one, was set at the number of its instance less 1, and this is its receipt
abbrev pub IsSet : List ℕ → Option Batch → Option Posted → Type 0
IsSet cells None None = Unit {0}
IsSet cells (Some batch) (Some receipt) = (receipt.batch ≡ batch) × (receipt.place ≡ batch.instance - 1) × (slice_get cells
    receipt.place ≡ Some receipt.cell)
IsSet cells _ _ = ⊥

-- the step is allowed and would make the order longer, and a cell of the board refused
pub record IsRefusedByBoard (w : Rehearsal) (step : Step) (refusal : Refusal) : Type 0 where
  pub named : refusal ≡ Board
  pub allowed : cause w step ≡ None
  pub posts : WouldPost w step

-- why a step is not done: by its cause, or, where it has none, for want of memory or by the board
abbrev pub IsRefusal : Rehearsal → Step → Refusal → Type 0
IsRefusal w step refusal = (refusal ≡ unwrap_or (cause w step) OutOfMemory) ⊎ IsRefusedByBoard w step refusal
