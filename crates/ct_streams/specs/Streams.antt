-- What is read of a source, what a sink holds after a write that failed, and how often a stream failed.
use Rattle.std.specs.Prelude.{◌≡◌, ◌≢◌, ◌+◌, ℕ, List, Option, Result, Err, take}
use Rattle.std.specs.Io.KnownBytes.{Appends}

-- the writer holds what it held, and then some first bytes of the text: nothing else was written
abbrev pub WritesPart : Option (List ℕ) → Option (List ℕ) → List ℕ → Type 0
WritesPart old new text = (n : ℕ) × Appends old new (take n text)

-- by these counts, before and after, a stream failed once where the result is this fault, and otherwise not at all
abbrev pub FailsOnce : {A E : Type 0} → Result A E → E → ℕ → ℕ → Type 0
FailsOnce result fault old new = (result ≡ Err fault → new ≡ old + 1) × (result ≢ Err fault → new ≡ old)

-- what is read of the input: one byte more than a record or a schedule may have, at most
unfoldable pub read_part : List ℕ → List ℕ
read_part input = take 67108865 input
