-- Marks of what was received.
use Rattle.std.specs.Prelude.{◌≡◌, ℕ, ◌+◌, ◌<◌, Bool, false, List, length, slice_index_or}
use Rattle.ct_model.specs.Rehearsal.{Rehearsal, state_of}
use Rattle.ct_settled.specs.Hindrance.{was_received}

-- each serial that was sent has its mark: whether its member received it
pub record AreMarked (w : Rehearsal) (marks : List Bool) : Type 0 where
  pub all : length marks ≡ length (state_of w).sent
  pub each : (i : ℕ) → i < length marks → slice_index_or marks i false ≡ was_received w (i + 1)
