-- What is delivered for a decision.
use Rattle.std.specs.Prelude.{ℕ, List}
use Rattle.ct_names.specs.Message.{Message}

-- an instance that was decided, and what is delivered for it, in order
pub record Batch : Type 0 where
  pub instance : ℕ
  pub messages : List Message
