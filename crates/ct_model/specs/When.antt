-- A value that is there only where a test passes.
use Rattle.std.specs.Prelude.{Bool, true, false, Option, Some, None}

-- the value, if the test passes
abbrev pub when : {A : Type 0} → Bool → A → Option A
when true x = Some x
when false x = None
